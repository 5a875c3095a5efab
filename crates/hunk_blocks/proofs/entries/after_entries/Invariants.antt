use Rattle.std.proofs.Common.{length}
use Rattle.hunk_blocks.proofs.{CutLaws.entries_are_cut, ListReading.Passes}
use Rattle.hunk_blocks.proofs.entries.after_entries.Given as goal

abbrev pub invariant-passing : goal.invariant-passing
invariant-passing l = Passes entries_are_cut l.fn.reader l.reader

abbrev pub decreases-passing : goal.decreases-passing
decreases-passing l = length l.reader.rest
