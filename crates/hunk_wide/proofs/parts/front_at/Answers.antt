use Rattle.hunk_wide.proofs.AsIs.{part_as_is}
use Rattle.hunk_wide.proofs.parts.front_at.Goals as goal

pub returns-clause-as_is : goal.returns-clause-as_is
returns-clause-as_is c =
    part_as_is _ _ _ c.args.bytes.now c.header_at-header.result.size c.first_blocks_at-blocks.result.size c.header_at-header.ensures.as_is c.first_blocks_at-blocks.ensures.as_is
