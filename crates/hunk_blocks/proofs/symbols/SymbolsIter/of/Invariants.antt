use Rattle.std.proofs.Common.{◌≡◌, ◌+◌, ◌≤◌, length}
use Rattle.hunk_blocks.specs.Cuts.{list_cut, symbol_cut}
use Rattle.hunk_blocks.proofs.{CutLaws.symbols_are_cut, ListReading.Passes}
use Rattle.hunk_blocks.proofs.symbols.SymbolsIter.of.Given as goal

abbrev pub invariant-passing : goal.invariant-passing
invariant-passing l =
    Passes symbols_are_cut l.fn.reader l.reader
    × (l.count + length (list_cut symbol_cut l.reader.rest).value ≡ length (list_cut symbol_cut l.fn.reader.rest).value)
    × (l.count ≤ l.reader.place)

abbrev pub decreases-passing : goal.decreases-passing
decreases-passing l = length l.reader.rest
