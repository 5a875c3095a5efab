use Rattle.std.proofs.Common.{◌-◌}
use Rattle.hunk_words.specs.Longs.{longs}
use Rattle.hunk_files.specs.ObjectPassing.{AreObjectGroups}
use Rattle.hunk_files.proofs.object.passing.after_groups.Given as goal

abbrev pub invariant-groups : goal.invariant-groups
invariant-groups l = AreObjectGroups (longs l.bytes) l.from l.at

abbrev pub decreases-groups : goal.decreases-groups
decreases-groups l = l.whole - l.at
