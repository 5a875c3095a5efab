use Rattle.std.proofs.Common.{arith}
use Rattle.hunk_c.proofs.strip.count_stripped.Goals as goal

pub returns : goal.returns
returns c = omega (arith, c.strip_with.ensures 0 (omega arith), c.requires)
