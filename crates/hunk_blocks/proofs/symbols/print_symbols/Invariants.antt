use Rattle.std.proofs.Common.{◌≡◌}
use Rattle.hunk_words.specs.Longs.{bytes_of}
use Rattle.hunk_words.proofs.Shown.{ShownUpTo}
use Rattle.hunk_blocks.specs.{Parts.symbol_text, Views.symbol_of}
use Rattle.hunk_blocks.proofs.symbols.print_symbols.Given as goal

abbrev pub invariant-symbols : goal.invariant-symbols
invariant-symbols g l = (l.page.origin ≡ l.fn.page.origin) × ShownUpTo (λ x. bytes_of (symbol_text (symbol_of x))) l.symbols l.symbol-index l.page.text l.fn.page.text
