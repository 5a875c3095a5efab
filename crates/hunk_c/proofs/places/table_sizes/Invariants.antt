use Rattle.hunk_c.proofs.TableSizes.{AreSummed}
use Rattle.hunk_c.proofs.places.table_sizes.Given as goal

abbrev pub invariant-rows : goal.invariant-rows
invariant-rows l = AreSummed l.fn.rows l.row-index l.header l.bytes
