use Rattle.std.proofs.Common.{◌-◌}
use Rattle.hunk_words.specs.Longs.{longs}
use Rattle.hunk_files.specs.Passing.{AreGroups}
use Rattle.hunk_files.proofs.load.passing.after_groups.Given as goal

abbrev pub invariant-groups : goal.invariant-groups
invariant-groups l = AreGroups (longs l.bytes) l.hunks l.declared l.from l.at

abbrev pub decreases-groups : goal.decreases-groups
decreases-groups l = l.whole - l.at
