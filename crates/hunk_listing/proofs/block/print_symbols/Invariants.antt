use Rattle.std.proofs.Common.{◌≡◌, ◌++◌, length}
use Rattle.std.specs.List.{flat_map}
use Rattle.hunk_listing.specs.BlockLines.{count_line, symbol_line}
use Rattle.hunk_listing.proofs.block.print_symbols.Given as goal

abbrev pub invariant-symbols : goal.invariant-symbols
invariant-symbols g l =
    (l.page.origin ≡ l.fn.page.origin)
    × (l.page.text ++ flat_map symbol_line l.symbol-iterator.value ≡ l.fn.page.text ++ (count_line l.fn.word (length l.fn.symbols.value) ++ flat_map symbol_line l.fn.symbols.value))
