use Rattle.std.proofs.Common.{ℕ, arith}
use Rattle.hunk_wide.proofs.AsIs.{part_as_is, row_as_is}
use Rattle.hunk_wide.proofs.Written.{part_length}
use Rattle.hunk_wide.proofs.parts.rows_at.Goals as goal

pub rows-preserved : goal.rows-preserved
rows-preserved c =
    let at : ℕ = c.rows.at in
    let row = c.is_row.ensures c.if-not-is_row.false in
    record {
      inside = omega (arith, row.whole, part_length at c.args.bytes.now);
      as_is = part_as_is _ _ _ c.args.bytes.now at 4 c.rows.invariant.as_is (row_as_is c.args.hunks c.rows.left _ (omega arith) row);
    }
