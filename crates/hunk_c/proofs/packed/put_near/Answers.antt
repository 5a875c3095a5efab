use Rattle.std.proofs.Common.{◌<◌, arith}
use Rattle.hunk_c.proofs.Packing.{base_low, has_row, near_next, none_near}
use Rattle.hunk_c.proofs.packed.put_near.Goals as goal

pub rows-init : goal.rows-init
rows-init c start p = none_near _ _ _ _ p c.args.number _ _ c.args.near.now (c.place_of-place.ensures start p)

pub overflow_cast-near : goal.overflow_cast-near
overflow_cast-near c =
    let p = c.requires.packed in
    let less : c.rows.hunk < c.args.hunks = omega (arith, c.rows-test.true, c.min-end.ensures) in
    omega (arith, base_low _ _ _ _ p.1 _ _ _ (c.rows.invariant p.0 p.1).is_row less)

pub next_row-place-requires : goal.next_row-place-requires
next_row-place-requires c =
    let p = c.requires.packed in
    let less : c.rows.hunk < c.args.hunks = omega (arith, c.rows-test.true, c.min-end.ensures) in
    has_row _ _ _ _ p.1 _ _ _ (c.rows.invariant p.0 p.1).is_row less

pub rows-preserved : goal.rows-preserved
rows-preserved c start p =
    let less : c.rows.hunk < c.args.hunks = omega (arith, c.rows-test.true, c.min-end.ensures) in
    near_next _ _ _ _ p _ _ _ _ _ (c.rows.invariant start p) less _ _ (omega (arith, c.rows-test.true, c.min-end.ensures, c.rows.auto.hunk)) (omega arith) (c.next_row-place.ensures.row p.table p.header start c.rows.hunk)

pub returns : goal.returns
returns c start p i less same = (c.rows.invariant start p).are_near i (omega (arith, less, same, c.rows-test.false, c.min-end.ensures)) same
