use Rattle.std.proofs.Common.{◌<◌, length, sym, arith}
use Rattle.hunk_c.proofs.FoundPlaces.{all_found, none_found, none_here, one_more, row_here, row_rises, row_small}
use Rattle.hunk_c.proofs.Succeeding.{same_length}
use Rattle.hunk_c.proofs.load_at.find_places.Goals as goal

pub placing-init : goal.placing-init
placing-init c t h e = none_found _ t h c.args.start c.args.room c.args.bases.now

pub next_row-after-requires : goal.next_row-after-requires
next_row-after-requires c =
    let r = c.requires.table in
    row_here (c.placing.invariant r.0 r.1 r.2) (omega (arith, r.2, c.placing-test.true))

pub overflow_sub-size : goal.overflow_sub-size
overflow_sub-size c =
    let r = c.requires.table in
    let s = c.placing.invariant r.0 r.1 r.2 in
    let inside : c.placing.hunk < length r.0 = omega (arith, r.2, c.placing-test.true) in
    row_rises s inside _ _ (c.next_row-after.ensures.row r.0 r.1 0 c.placing.hunk inside s.is_row)

pub base_in-requires : goal.base_in-requires
base_in-requires c =
    let r = c.requires.table in
    let s = c.placing.invariant r.0 r.1 r.2 in
    let inside : c.placing.hunk < length r.0 = omega (arith, r.2, c.placing-test.true) in
    record { size = row_small s inside _ _ (c.next_row-after.ensures.row r.0 r.1 0 c.placing.hunk inside s.is_row) }

pub returns-then-is_none-clause-unplaced : goal.returns-then-is_none-clause-unplaced
returns-then-is_none-clause-unplaced c = λ t h.
    let r = c.requires.table in
    let e = same_length _ r.0 t c.args.hunks r.1 r.2 h in
    let s = c.placing.invariant t h e in
    let inside : c.placing.hunk < length t = omega (arith, e, c.placing-test.true) in
    none_here s inside _ _ (c.next_row-after.ensures.row t h 0 c.placing.hunk inside s.is_row) c.base_in.result c.base_in.ensures c.if-is_none.ensures

pub placing-preserved : goal.placing-preserved
placing-preserved c t h e =
    let s = c.placing.invariant t h e in
    let inside : c.placing.hunk < length t = omega (arith, e, c.placing-test.true) in
    one_more s inside _ _ (c.next_row-after.ensures.row t h 0 c.placing.hunk inside s.is_row) c.base_in.result c.base_in.ensures c.if-is_none.ensures

pub returns-clause-placed : goal.returns-clause-placed
returns-clause-placed c = λ t h.
    let r = c.requires.table in
    let e = same_length _ r.0 t c.args.hunks r.1 r.2 h in
    let s = c.placing.invariant t h e in
    all_found s c.args.hunks (sym e) (omega (arith, c.placing-test.false)) (omega (arith, s.enough, c.placing-test.false))

pub returns-clause-enough : goal.returns-clause-enough
returns-clause-enough c =
    let r = c.requires.table in
    omega (arith, (c.placing.invariant r.0 r.1 r.2).enough, c.placing-test.false)
