use Rattle.std.proofs.Common.{◌-◌}
use Rattle.hunk_files.proofs.walk.LoadWalks.{Walks}
use Rattle.hunk_files.proofs.load.walk.walk.Given as goal

abbrev pub invariant-walking : goal.invariant-walking
invariant-walking l = Walks l.bytes l.at l.position l.entry

abbrev pub decreases-walking : goal.decreases-walking
decreases-walking l = l.count - l.at
