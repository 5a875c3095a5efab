use Rattle.hunk_wide.proofs.BehindEnds.{spelled_as_is}
use Rattle.hunk_wide.proofs.behind.pass_spelled.Goals as goal

pub returns-in-Some-clause-some : goal.returns-in-Some-clause-some
returns-in-Some-clause-some c = spelled_as_is _ _ c.args.bytes.now _ _ c.in-Some.ensures.some
