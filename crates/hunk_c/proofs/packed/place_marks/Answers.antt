use Rattle.std.proofs.Common.{◌<◌, length, sym, arith, inl, inr}
use Rattle.std.proofs.lemmas.Bool.{eqb-true}
use Rattle.hunk_c.proofs.Packing.{all_packed, are_packed, are_short, none_packed, packed_more, packed_not}
use Rattle.hunk_c.proofs.Succeeding.{same_length}
use Rattle.hunk_c.proofs.packed.place_marks.Goals as goal
use Rattle.hunk_c.proofs.packed.place_marks.Goals.{then-place-ge-END-via-then-place-ge-END, then-place-ge-END-via-else-place-ge-END+then-after-gt-END}

pub placing-init : goal.placing-init
placing-init c t h e = none_packed _ t h c.args.start c.from.result _ c.from.ensures (omega (arith, e, c.requires.room))

pub next_row-after-requires : goal.next_row-after-requires
next_row-after-requires c =
    let r = c.requires.table in
    let s = c.placing.invariant r.0 r.1 r.2 in
    record {
      table = r.0;
      header = r.1;
      start = c.args.start;
      hunk = c.placing.hunk;
      few = omega arith;
      inside = omega (arith, r.2, c.placing-test.true);
      is_row = s.is_row;
    }

pub returns-then-place-ge-END-clause-unplaced : goal.returns-then-place-ge-END-clause-unplaced
returns-then-place-ge-END-clause-unplaced c = λ t h.
    let r = c.requires.table in
    let e = same_length _ r.0 t c.args.hunks r.1 r.2 h in
    let s = c.placing.invariant t h e in
    let inside : c.placing.hunk < length t = omega (arith, e, c.placing-test.true) in
    packed_not _ t h c.args.start c.placing.marks c.placing.hunk _ _ s inside _ _ (c.next_row-after.ensures.row t h c.args.start c.placing.hunk inside s.is_row)
    (elim c.then-place-ge-END.branch [
      | then-place-ge-END-via-then-place-ge-END v ↦ inl (omega (arith, v.if-place-ge-END.true))
      | then-place-ge-END-via-else-place-ge-END+then-after-gt-END v ↦ inr (omega (arith, v.if-after-gt-END.true))
    ])

pub put_mark-requires-clause-room : goal.put_mark-requires-clause-room
put_mark-requires-clause-room c =
    let r = c.requires.table in
    omega (arith, (c.placing.invariant r.0 r.1 r.2).room, r.2, c.placing-test.true)

pub put_mark-requires-clause-longword : goal.put_mark-requires-clause-longword
put_mark-requires-clause-longword c =
    let r = c.requires.table in
    omega (arith, (c.placing.invariant r.0 r.1 r.2).near, c.placing-test.true)

pub placing-preserved : goal.placing-preserved
placing-preserved c t h e =
    let s = c.placing.invariant t h e in
    let inside : c.placing.hunk < length t = omega (arith, e, c.placing-test.true) in
    packed_more _ t h c.args.start c.placing.marks c.placing.hunk _ _ s inside _ _ (c.next_row-after.ensures.row t h c.args.start c.placing.hunk inside s.is_row) c.put_mark.new.marks
    c.next_row-after.ensures.more c.next_row-after.ensures.near (c.put_mark.ensures _ t h c.args.start s.are_marks s.is_row) c.put_mark.auto.marks
    (omega (arith, c.if-place-ge-END.false)) (omega (arith, c.if-after-gt-END.false))

pub returns-clause-packed : goal.returns-clause-packed
returns-clause-packed c =
    let r = c.requires.table in
    are_packed _ r.0 r.1 c.args.start c.args.hunks c.placing.marks c.placing.hunk _ _ (sym r.2) (omega (arith, r.2, c.placing-test.false)) (c.placing.invariant r.0 r.1 r.2) (omega arith)

pub returns-clause-bases : goal.returns-clause-bases
returns-clause-bases c = λ t h.
    let r = c.requires.table in
    let e = same_length _ r.0 t c.args.hunks r.1 r.2 h in
    all_packed _ t h c.args.start c.args.hunks c.placing.marks c.placing.hunk _ _ (sym e) (omega (arith, e, c.placing-test.false)) (c.placing.invariant t h e)

pub returns-clause-short : goal.returns-clause-short
returns-clause-short c = λ short t h.
    let r = c.requires.table in
    let e = same_length _ r.0 t c.args.hunks r.1 r.2 h in
    let s = c.placing.invariant t h e in
    are_short _ t h c.args.start c.args.hunks c.placing.marks c.placing.hunk _ _ (sym e) (omega (arith, e, c.placing-test.false)) s (eqb-true _ _ short) (omega (arith, c.placing-test.false))
