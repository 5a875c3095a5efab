use Rattle.hunk_parts.proofs.RowSizes.{PassedRows}
use Rattle.hunk_parts.proofs.faults.find_fault.Given as goal

abbrev pub invariant-rows : goal.invariant-rows
invariant-rows l = PassedRows l.bytes l.rows l.i l.place
