use Rattle.std.proofs.Common.{drop}
use Rattle.std.specs.List.{flat_map}
use Rattle.hunk_blocks.specs.Faults.{words}
use Rattle.hunk_files.specs.LoadText.{entry_labelled}
use Rattle.hunk_parts.specs.RowsText.{rows_table}
use Rattle.hunk_parts.proofs.LongBytes.{PutUpTo}
use Rattle.hunk_parts.proofs.text.put_table.Given as goal

abbrev pub invariant-rows : goal.invariant-rows
invariant-rows g l = PutUpTo g.T.TakesBytes.takes l.fn.taker l.taker (words (flat_map entry_labelled (rows_table (drop l.i l.rows)))) (words (flat_map entry_labelled (rows_table l.rows)))
