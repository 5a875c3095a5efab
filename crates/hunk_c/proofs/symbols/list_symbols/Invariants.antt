use Rattle.std.proofs.Common.{◌≡◌, length}
use Rattle.hunk_blocks.specs.Parts.{symbol_text}
use Rattle.hunk_files.proofs.findings.FindingSteps.{TakenUpTo}
use Rattle.hunk_parts.specs.Listing.{item_rows}
use Rattle.hunk_c.specs.Symbols.{symbol_row}
use Rattle.hunk_c.proofs.symbols.list_symbols.Given as goal

abbrev pub invariant-listing : goal.invariant-listing
invariant-listing g l =
    let left = item_rows (symbol_row l.unit l.hunk) symbol_text in
    (l.place ≡ l.symbols.place)
    × TakenUpTo g.T.Takes.takes l.fn.taker l.taker (left l.symbols.place l.symbols.value) (left l.fn.symbols.place l.fn.symbols.value)

abbrev pub decreases-listing : goal.decreases-listing
decreases-listing g l = length l.symbols.value
