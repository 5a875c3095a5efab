use Rattle.hunk_blocks.specs.{Parts.ext_text, Views.entry_of}
use Rattle.hunk_blocks.proofs.ListReading.{Keeps}
use Rattle.hunk_blocks.proofs.entries.keep_entries.Given as goal

abbrev pub invariant-keeping : goal.invariant-keeping
invariant-keeping l = Keeps entry_of ext_text l.fn.entries l.entries l.kept.items
