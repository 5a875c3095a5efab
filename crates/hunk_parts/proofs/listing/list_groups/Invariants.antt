use Rattle.std.proofs.Common.{◌≡◌, length}
use Rattle.hunk_blocks.specs.Parts.{group_text}
use Rattle.hunk_files.proofs.findings.FindingSteps.{TakenUpTo}
use Rattle.hunk_parts.specs.{Listing.item_rows, PartRows.group_row}
use Rattle.hunk_parts.proofs.listing.list_groups.Given as goal

abbrev pub invariant-listing : goal.invariant-listing
invariant-listing g l =
    let left = item_rows group_row group_text in
    (l.place ≡ l.groups.place)
    × TakenUpTo g.T.Takes.takes l.fn.taker l.taker (left l.groups.place l.groups.value) (left l.fn.groups.place l.fn.groups.value)

abbrev pub decreases-listing : goal.decreases-listing
decreases-listing g l = length l.groups.value
