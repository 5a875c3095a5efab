use Rattle.std.proofs.Common.{ℕ, ◌∙◌, ◌+◌, ◌-◌, ◌*◌, List, length, refl, sym, ap, subst, arith, get_or}
use borrow.Rule.Slice.PartMut.{put_mid}
use Rattle.hunk_words.specs.Bits.{size_longs}
use Rattle.hunk_files.specs.{Image.image, LoadFile.{IsHunk, LoadFileValue, TableEntry}, LoadHunks.{FillsFirst, FitsFirst}, LoadText.table, Tables.size_entry}
use Rattle.hunk_files.proofs.image.FillingLaws.{part_size}
use Rattle.hunk_c.proofs.PlacedHunks.{PutSoFar, all_put, first_left, hunk_put, hunk_room, is_hunk, hunk_lies, no_left, none_put, number_inside}
use Rattle.hunk_c.proofs.load_at.put_hunks.Goals as goal

pub putting-init : goal.putting-init
putting-init c = record {
  same = refl;
  left = ap table c.iter-hunks.ensures.value ∙ sym (c.into_iter-size-iterator.ensures.into_iter_gives ∙ c.table-size-items.ensures.value);
  put = none_put _ _ _ _ _ c.iter-hunks.ensures.value;
}

pub offset_bounds-bases-number : goal.offset_bounds-bases-number
offset_bounds-bases-number c =
    let f = first_left c.putting.hunks.value (size_entry c.in-Some.size) c.next.new.self (c.putting.invariant.left ∙ c.in-Some.ensures.steps) in
    omega (arith, number_inside c.putting.invariant.put c.requires.bases.0 c.requires.bases.1 f.hunk f.later f.is, c.hunks-count.type_inv)

pub bounds-bases-number : goal.bounds-bases-number
bounds-bases-number c =
    let f = first_left c.putting.hunks.value (size_entry c.in-Some.size) c.next.new.self (c.putting.invariant.left ∙ c.in-Some.ensures.steps) in
    omega (arith, number_inside c.putting.invariant.put c.requires.bases.0 c.requires.bases.1 f.hunk f.later f.is, ap (λ (b : List ℕ). length b) c.putting.invariant.same)

pub overflow_sub-at : goal.overflow_sub-at
overflow_sub-at c =
    let f = first_left c.putting.hunks.value (size_entry c.in-Some.size) c.next.new.self (c.putting.invariant.left ∙ c.in-Some.ensures.steps) in
    omega (arith, (hunk_lies c.putting.invariant.put c.requires.bases.0 c.requires.bases.1 f.hunk f.later f.is).from, ap (λ (b : List ℕ). get_or b c.putting.number 0) c.putting.invariant.same)

pub overflow_add-number : goal.overflow_add-number
overflow_add-number c =
    let f = first_left c.putting.hunks.value (size_entry c.in-Some.size) c.next.new.self (c.putting.invariant.left ∙ c.in-Some.ensures.steps) in
    omega (arith, number_inside c.putting.invariant.put c.requires.bases.0 c.requires.bases.1 f.hunk f.later f.is, c.hunks-count.type_inv)

pub slice_bounds-fill_next-end : goal.slice_bounds-fill_next-end
slice_bounds-fill_next-end c =
    let f = first_left c.putting.hunks.value (size_entry c.in-Some.size) c.next.new.self (c.putting.invariant.left ∙ c.in-Some.ensures.steps) in
    let many = c.bytes.ensures ∙ ap (λ (e : TableEntry). 4 * size_longs e.word) (sym f.entry_is) in
    let room = hunk_room c.putting.invariant.put c.requires.bases.0 c.requires.bases.1 f.hunk f.later f.is c.bytes.result many in
    omega (arith, room, ap (λ (b : List ℕ). get_or b c.putting.number 0) c.putting.invariant.same, c.putting.auto.memory)

pub fill_next-requires : goal.fill_next-requires
fill_next-requires c =
    let f = first_left c.putting.hunks.value (size_entry c.in-Some.size) c.next.new.self (c.putting.invariant.left ∙ c.in-Some.ensures.steps) in
    let many = c.bytes.ensures ∙ ap (λ (e : TableEntry). 4 * size_longs e.word) (sym f.entry_is) in
    let same = c.putting.invariant.same in
    let room = hunk_room c.putting.invariant.put c.requires.bases.0 c.requires.bases.1 f.hunk f.later f.is c.bytes.result many in
    let size = part_size (get_or c.putting.bases.now c.putting.number 0 - c.args.start) c.bytes.result c.putting.memory (omega (arith, room, ap (λ (b : List ℕ). get_or b c.putting.number 0) same)) in
    let is = subst (λ (b : List ℕ). IsHunk (length b) f.hunk) (sym same) (is_hunk c.putting.invariant.put c.requires.bases.0 c.requires.bases.1 f.hunk f.later f.is c.iter-hunks.ensures.file) in
    subst (FitsFirst (length c.putting.bases.now) _) (sym f.is) (is, size ∙ many)

pub putting-preserved : goal.putting-preserved
putting-preserved c =
    let f = first_left c.putting.hunks.value (size_entry c.in-Some.size) c.next.new.self (c.putting.invariant.left ∙ c.in-Some.ensures.steps) in
    let many = c.bytes.ensures ∙ ap (λ (e : TableEntry). 4 * size_longs e.word) (sym f.entry_is) in
    let same = c.putting.invariant.same in
    let bytes = c.bytes.result in
    let at = get_or c.putting.bases.now c.putting.number 0 - c.args.start in
    let room = hunk_room c.putting.invariant.put c.requires.bases.0 c.requires.bases.1 f.hunk f.later f.is bytes many in
    let size = part_size at bytes c.putting.memory (omega (arith, room, ap (λ (b : List ℕ). get_or b c.putting.number 0) same)) in
    let fills = subst (λ (hs : LoadFileValue). FillsFirst c.putting.bases.now hs c.fill_next.new.memory c.fill_next.new.self.value) f.is c.fill_next.ensures.fills in
    let put =
    hunk_put c.putting.invariant.put c.requires.bases.0 c.requires.bases.1 f.hunk f.later f.is bytes c.fill_next.new.memory many
    (omega (arith, c.fill_next.auto.memory, size)) (fills.0 ∙ ap (λ (b : List ℕ). image b f.hunk) same) in
    let part = λ (b : List ℕ). put_mid (get_or b c.putting.number 0 - c.args.start) (get_or b c.putting.number 0 - c.args.start + bytes - (get_or b c.putting.number 0 - c.args.start)) c.putting.memory c.fill_next.new.memory in
    record {
      same = c.fill_next.ensures.stays ∙ same;
      left = ap table fills.1 ∙ f.entries_are;
      put =
          subst (λ (hs : LoadFileValue). PutSoFar c.args.start c.args.bases.now c.args.file.now hs (c.putting.number + 1) c.args.memory.now (part c.putting.bases.now)) (sym fills.1)
          (subst (λ (b : List ℕ). PutSoFar c.args.start c.args.bases.now c.args.file.now f.later (c.putting.number + 1) c.args.memory.now (part b)) (sym same) put);
    }

pub returns : goal.returns
returns c = all_put c.putting.invariant.put (no_left c.putting.hunks.value (c.putting.invariant.left ∙ c.in-None.ensures.steps.0))
