use Rattle.std.proofs.Common.{◌-◌, length}
use Rattle.hunk_words.specs.Longs.{longs}
use Rattle.hunk_files.specs.ObjectPassing.{AreEntries}
use Rattle.hunk_files.proofs.object.passing.after_entries.Given as goal

abbrev pub invariant-entries : goal.invariant-entries
invariant-entries l = AreEntries (longs l.bytes) l.from l.at

abbrev pub decreases-entries : goal.decreases-entries
decreases-entries l = length (longs l.bytes) - l.at
