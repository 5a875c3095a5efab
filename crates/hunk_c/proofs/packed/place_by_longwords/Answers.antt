use Rattle.std.proofs.Common.{◌≡◌, ◌<◌, ◌+◌, ◌*◌, ◌/◌, ◌%◌, ℕ, get_or, subst, sym, ◌∙◌, arith}
use Rattle.hunk_words.proofs.LongLaws.{word_of_bytes}
use Rattle.hunk_c.specs.Packs.{IsRow, hunks_a_mark, no_mark}
use Rattle.hunk_c.proofs.Packing.{mark_inside, short_low, short_next, short_room}
use Rattle.hunk_c.proofs.packed.place_by_longwords.Goals as goal

pub bounds-marks-hunk : goal.bounds-marks-hunk
bounds-marks-hunk c = mark_inside _ _ _ _ c.requires.packed.1 c.args.hunk c.requires.inside

pub bounds-bytes-at : goal.bounds-bytes-at
bounds-bytes-at c =
    let p = c.requires.packed in
    omega (arith, short_room _ _ _ _ p.1 _ (c.requires.short p.0 p.1) _ _ (c.rows.invariant p.0 p.1) (omega (arith, c.rows-test.true)) (omega (arith, c.rows-test.true, c.requires.inside)))

pub bounds-bytes-at-in-rows : goal.bounds-bytes-at-in-rows
bounds-bytes-at-in-rows c =
    let p = c.requires.packed in
    omega (arith, short_room _ _ _ _ p.1 _ (c.requires.short p.0 p.1) _ _ (c.rows.invariant p.0 p.1) (omega (arith, c.rows-test.true)) (omega (arith, c.rows-test.true, c.requires.inside)))

pub bounds-bytes-at-in-rows-2 : goal.bounds-bytes-at-in-rows-2
bounds-bytes-at-in-rows-2 c =
    let p = c.requires.packed in
    omega (arith, short_room _ _ _ _ p.1 _ (c.requires.short p.0 p.1) _ _ (c.rows.invariant p.0 p.1) (omega (arith, c.rows-test.true)) (omega (arith, c.rows-test.true, c.requires.inside)))

pub bounds-bytes-at-in-rows-3 : goal.bounds-bytes-at-in-rows-3
bounds-bytes-at-in-rows-3 c =
    let p = c.requires.packed in
    omega (arith, short_room _ _ _ _ p.1 _ (c.requires.short p.0 p.1) _ _ (c.rows.invariant p.0 p.1) (omega (arith, c.rows-test.true)) (omega (arith, c.rows-test.true, c.requires.inside)))

pub overflow_add-base : goal.overflow_add-base
overflow_add-base c =
    let p = c.requires.packed in
    let few : c.rows.row + 1 < hunks_a_mark = omega (arith, c.rows-test.true) in
    let less : hunks_a_mark * (c.args.hunk / hunks_a_mark) + (c.rows.row + 1) < c.args.hunks = omega (arith, c.rows-test.true, c.requires.inside) in
    let r = c.rows.invariant p.0 p.1 in
    let room = short_room _ _ _ _ p.1 _ (c.requires.short p.0 p.1) _ _ r few less in
    omega (arith, short_low _ _ _ _ p.1 _ (c.requires.short p.0 p.1) _ _ r few less _ (c.from_be_bytes-word.ensures ∙ word_of_bytes c.args.bytes.now _ room))

pub rows-preserved : goal.rows-preserved
rows-preserved c start p =
    let few : c.rows.row + 1 < hunks_a_mark = omega (arith, c.rows-test.true) in
    let less : hunks_a_mark * (c.args.hunk / hunks_a_mark) + (c.rows.row + 1) < c.args.hunks = omega (arith, c.rows-test.true, c.requires.inside) in
    let r = c.rows.invariant start p in
    let room = short_room _ _ _ _ p _ (c.requires.short start p) _ _ r few less in
    short_next _ _ _ _ p _ (c.requires.short start p) _ _ r few less _ (c.from_be_bytes-word.ensures ∙ word_of_bytes c.args.bytes.now _ room)

pub returns : goal.returns
returns c start p =
    let from : ℕ = (get_or c.args.marks.now (c.args.hunk / hunks_a_mark) no_mark).longword in
    let last : c.rows.row ≡ c.args.hunk % hunks_a_mark = omega (arith, c.rows-test.false, c.rows.auto.row-end) in
    let here : hunks_a_mark * (c.args.hunk / hunks_a_mark) + c.rows.row ≡ c.args.hunk = omega (arith, last) in
    subst (λ (base : ℕ). IsRow p.header start c.args.hunk (from + c.args.hunk % hunks_a_mark) base) (sym c.from.ensures)
    (subst (λ (row : ℕ). IsRow p.header start c.args.hunk (from + row) c.rows.base) last
    (subst (λ (hunk : ℕ). IsRow p.header start hunk (from + c.rows.row) c.rows.base) here (c.rows.invariant start p)))
