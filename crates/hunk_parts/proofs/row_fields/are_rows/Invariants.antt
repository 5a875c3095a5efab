use Rattle.std.proofs.Common.{take}
use Rattle.hunk_parts.specs.RowFields.{AreRows}
use Rattle.hunk_parts.proofs.row_fields.are_rows.Given as goal

abbrev pub invariant-rows : goal.invariant-rows
invariant-rows l = AreRows (take l.i l.rows)
