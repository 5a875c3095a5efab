use Rattle.hunk_wide.proofs.AsIs.{part_as_is}
use Rattle.hunk_wide.proofs.Headers.{header_as_is}
use Rattle.hunk_wide.proofs.parts.header_at.Goals as goal

pub returns-clause-as_is : goal.returns-clause-as_is
returns-clause-as_is c =
    part_as_is _ _ _ c.args.bytes.now 20 c.table_at-rest.result.size (header_as_is c.args.bytes.now c.in-Some.hunks c.in-Some.ensures) c.table_at-rest.ensures.as_is
