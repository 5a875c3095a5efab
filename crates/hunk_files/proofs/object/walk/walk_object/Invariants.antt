use Rattle.std.proofs.Common.{◌-◌, ◌≤◌}
use Rattle.hunk_files.proofs.object_walk.ObjectWalks.{ObjectWalks}
use Rattle.hunk_files.proofs.object.walk.walk_object.Given as goal

abbrev pub invariant-walking : goal.invariant-walking
invariant-walking l = (l.units ≤ l.at) × (l.whole ≤ l.at) × ObjectWalks l.bytes l.at l.position l.units l.whole

abbrev pub decreases-walking : goal.decreases-walking
decreases-walking l = l.count - l.at
