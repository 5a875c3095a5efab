use Rattle.hunk_blocks.specs.{Parts.symbol_text, Views.symbol_of}
use Rattle.hunk_blocks.proofs.ListReading.{Keeps}
use Rattle.hunk_blocks.proofs.symbols.keep_symbols.Given as goal

abbrev pub invariant-keeping : goal.invariant-keeping
invariant-keeping l = Keeps symbol_of symbol_text l.fn.symbols l.symbols l.kept.items
