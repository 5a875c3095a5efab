use Rattle.std.proofs.Common.{◌-◌}
use Rattle.hunk_blocks.proofs.BlockWalks.{BlockWalks}
use Rattle.hunk_blocks.proofs.walk.walk_block.Given as goal

abbrev pub invariant-walking : goal.invariant-walking
invariant-walking l = BlockWalks l.mode l.bytes l.at l.position

abbrev pub decreases-walking : goal.decreases-walking
decreases-walking l = l.count - l.at
