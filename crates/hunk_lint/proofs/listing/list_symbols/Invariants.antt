use Rattle.std.proofs.Common.{◌≡◌, length}
use Rattle.hunk_files.proofs.findings.FindingSteps.{TakenUpTo}
use Rattle.hunk_lint.specs.{Known.seen, Warnings.symbols_warnings}
use Rattle.hunk_lint.proofs.listing.list_symbols.Given as goal

abbrev pub invariant-listing : goal.invariant-listing
invariant-listing g l =
    let left = symbols_warnings (seen l.hunk) in
    (l.place ≡ l.symbols.place)
    × TakenUpTo g.T.Takes.takes l.fn.taker l.taker (left l.symbols.place l.symbols.value) (left l.fn.symbols.place l.fn.symbols.value)

abbrev pub decreases-listing : goal.decreases-listing
decreases-listing g l = length l.symbols.value
