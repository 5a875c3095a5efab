use Rattle.std.proofs.Common.{◌+◌, subst, sym}
use Rattle.hunk_parts.specs.PartFaults.{PartPlace}
use Rattle.hunk_parts.proofs.RowSizes.{PassedRows, next_drop, none_passed, row_passed}
use Rattle.hunk_parts.proofs.faults.find_fault.Goals as goal

pub rows-init : goal.rows-init
rows-init c =
    subst (λ (p : PartPlace). PassedRows c.args.bytes.now c.args.rows.now 0 p) (sym c.in_ok-place.ensures.place) (none_passed c.args.bytes.now c.args.rows.now c.in_ok-place.ensures.most)

pub rows-preserved : goal.rows-preserved
rows-preserved c =
    subst (λ (p : PartPlace). PassedRows c.args.bytes.now c.args.rows.now (c.rows.i + 1) p) (sym c.in-Ok.ensures.next)
    (row_passed c.args.bytes.now c.args.rows.now c.rows.i c.rows.place _ (next_drop c.args.rows.now c.rows.i _ c.rows-test.true) c.in-Ok.ensures.passes c.rows.invariant)
