use Rattle.std.proofs.Common.{[]}
use Rattle.hunk_files.proofs.findings.FindingSteps.{TakenUpTo}
use Rattle.hunk_parts.specs.PartRows.{object_rows}
use Rattle.hunk_parts.proofs.ItemsLeft.{rows_left}
use Rattle.hunk_parts.proofs.listing.list_object.Given as goal

abbrev pub invariant-listing : goal.invariant-listing
invariant-listing g l =
    TakenUpTo g.T.Takes.takes l.fn.taker l.taker (rows_left [] l.item-iterator.place l.item-iterator.value) (object_rows l.fn.file)
