use Rattle.std.proofs.Common.{◌≡◌, ◌+◌, ◌-◌, ◌*◌, length}
use Rattle.hunk_files.proofs.findings.FindingSteps.{TakenUpTo}
use Rattle.hunk_parts.specs.Listing.{item_rows}
use Rattle.hunk_c.specs.References.{long_text, reference_row}
use Rattle.hunk_c.proofs.references.list_references.Given as goal

abbrev pub invariant-listing : goal.invariant-listing
invariant-listing g l =
    let left = item_rows (reference_row l.entry l.width) long_text in
    (l.place + 4 * length l.offset-iterator ≡ l.fn.end)
    × TakenUpTo g.T.Takes.takes l.fn.taker l.taker (left l.place l.offset-iterator) (left (l.fn.end - 4 * length l.fn.offsets) l.fn.offsets)
