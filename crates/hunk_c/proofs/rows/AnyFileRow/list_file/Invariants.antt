use Rattle.std.specs.List.{flat_map}
use Rattle.hunk_files.specs.{FileView.file_of, StandingBlocks.items_blocks}
use Rattle.hunk_files.proofs.findings.FindingSteps.{TakenUpTo}
use Rattle.hunk_c.specs.Rows.{rows_in}
use Rattle.hunk_c.proofs.rows.AnyFileRow.list_file.Given as goal

abbrev pub invariant-listing : goal.invariant-listing
invariant-listing g l =
    TakenUpTo g.T.Takes.takes l.fn.taker l.taker (flat_map g.R.InBlock.in_block (items_blocks l.item-iterator.place l.item-iterator.value)) (rows_in g.R.InBlock.in_block (file_of l.fn.file))
