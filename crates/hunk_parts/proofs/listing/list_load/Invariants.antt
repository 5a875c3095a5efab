use Rattle.hunk_files.proofs.findings.FindingSteps.{TakenUpTo}
use Rattle.hunk_parts.specs.PartRows.{load_rows}
use Rattle.hunk_parts.proofs.ItemsLeft.{rows_left}
use Rattle.hunk_parts.proofs.listing.list_load.Given as goal

abbrev pub invariant-listing : goal.invariant-listing
invariant-listing g l =
    TakenUpTo g.T.Takes.takes l.fn.taker l.taker (rows_left l.table l.item-iterator.place l.item-iterator.value) (load_rows l.fn.file)
