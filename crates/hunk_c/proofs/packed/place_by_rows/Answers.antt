use Rattle.std.proofs.Common.{◌≡◌, ◌<◌, ℕ, subst, arith}
use Rattle.hunk_c.specs.Packs.{IsRow}
use Rattle.hunk_c.proofs.Packing.{has_row, mark_inside, row_after}
use Rattle.hunk_c.proofs.packed.place_by_rows.Goals as goal

pub bounds-marks-number : goal.bounds-marks-number
bounds-marks-number c = mark_inside _ _ _ _ c.requires.packed.1 c.args.hunk c.requires.inside

pub next_row-place-requires : goal.next_row-place-requires
next_row-place-requires c =
    let p = c.requires.packed in
    let less : c.rows._row < c.args.hunks = omega (arith, c.rows-test.true, c.requires.inside) in
    has_row _ _ _ _ p.1 _ _ _ (c.rows.invariant p.0 p.1) less

pub rows-preserved : goal.rows-preserved
rows-preserved c start p =
    let less : c.rows._row < c.args.hunks = omega (arith, c.rows-test.true, c.requires.inside) in
    row_after _ _ _ _ p _ _ _ (c.rows.invariant start p) less _ _ (c.next_row-place.ensures.row p.table p.header start c.rows._row)

pub returns : goal.returns
returns c start p =
    let here : c.rows._row ≡ c.args.hunk = omega (arith, c.rows-test.false, c.rows.auto._row-end) in
    subst (λ (hunk : ℕ). IsRow p.header start hunk c.rows.place.longword c.rows.place.base) here (c.rows.invariant start p)
