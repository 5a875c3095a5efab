use Rattle.std.proofs.Common.{◌≡◌, length}
use Rattle.hunk_blocks.specs.Parts.{ext_text}
use Rattle.hunk_files.proofs.findings.FindingSteps.{TakenUpTo}
use Rattle.hunk_parts.specs.Listing.{item_rows}
use Rattle.hunk_c.specs.Entries.{entry_row}
use Rattle.hunk_c.proofs.entries.list_entries.Given as goal

abbrev pub invariant-listing : goal.invariant-listing
invariant-listing g l =
    let left = item_rows (entry_row l.unit l.hunk) ext_text in
    (l.place ≡ l.entries.place)
    × TakenUpTo g.T.Takes.takes l.fn.taker l.taker (left l.entries.place l.entries.value) (left l.fn.entries.place l.fn.entries.value)

abbrev pub decreases-listing : goal.decreases-listing
decreases-listing g l = length l.entries.value
