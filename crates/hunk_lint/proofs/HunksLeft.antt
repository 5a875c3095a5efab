-- The hunks of a file that are left: what its table and its items have of them.
use Rattle.std.proofs.Common.{◌≡◌, ℕ, ◌+◌, ◌*◌, ◌<◌, ◌≤◌, List, [], ◌∷◌, length, drop, refl, sym, ap, ap₂, subst, ◌∙◌, Some, arith}
use Rattle.std.specs.List.{AllByRecursion}
use Rattle.hunk_words.specs.declared.size_word.SizeWord.{SizeWord}
use Rattle.hunk_blocks.specs.{Placed.Placed, Values.BlockValue}
use Rattle.hunk_files.specs.{Hunks.block_texts, Image.relocations, InPlace.GivesPart, Items.ItemValue, Tables.size_entry}
use Rattle.hunk_files.specs.LoadFile.{HunkValue, IsHunk, LoadFileValue, TableEntry}
use Rattle.hunk_files.specs.LoadText.{table}
use Rattle.hunk_files.proofs.views.HunksInPlace.{hunk_text}
use Rattle.hunk_lint.specs.NextHunk.{IsAtHunk, after_blocks, blocks_of_first, first_blocks}
use Rattle.hunk_lint.proofs.OpenHunk.{at_hunk, blocks_are, items_of, left_are, opened_are}
use Rattle.hunk_lint.proofs.RoomLaws.{AreWithin}

-- Those before the one with this number are done; each of the others fits in the room.
pub record HunksLeft (v : LoadFileValue) (room number : ℕ) (entries : List TableEntry) (items : List ItemValue) : Type 0 where
  pub left : LoadFileValue
  pub entries_are : entries ≡ table left
  pub items_are : items ≡ items_of number left
  pub number_is : number + length left ≡ length v
  pub each : AllByRecursion (IsHunk (length v)) left
  pub room_is : AreWithin room left

-- the hunk with this entry, and those after it
pub record Comes (left : LoadFileValue) (entry : TableEntry) (entries : List TableEntry) : Type 0 where
  pub hunk : HunkValue
  pub rest : LoadFileValue
  pub first : left ≡ hunk ∷ rest
  pub entry_is : entry ≡ hunk.entry
  pub entries_are : entries ≡ table rest

comes : (left : LoadFileValue) (entry : TableEntry) (old new : List TableEntry) → old ≡ table left → old ≡ entry ∷ new → Comes left entry new
comes [] entry old new is first = absurd cc
comes (h ∷ rest) entry old new is first =
    let same : entry ∷ new ≡ h.entry ∷ table rest = sym first ∙ is in
    record { hunk = h; rest = rest; first = refl; entry_is = cc; entries_are = cc }

module _ {v : LoadFileValue} {room number : ℕ} {entries : List TableEntry} {items : List ItemValue} (l : HunksLeft v room number entries items) (size : SizeWord) (new : List TableEntry) (steps : entries ≡ size_entry size ∷ new) where
  pub next : Comes l.left (size_entry size) new
  next = comes l.left (size_entry size) entries new l.entries_are steps

  pub begins : IsAtHunk items
  begins = at_hunk number l.left next.rest next.hunk next.first items l.items_are

  pub number_fits : number < length v
  number_fits = omega (arith, l.number_is, ap (λ (hs : LoadFileValue). length hs) next.first)

  module _ (blocks : Placed (List BlockValue)) (are : blocks.value ≡ blocks_of_first items) where
    abbrev pub hunk : HunkValue
    hunk = record { entry = size_entry size; blocks = blocks.value }

    blocks_same : blocks.value ≡ next.hunk.blocks
    blocks_same = are ∙ blocks_are number l.left next.rest next.hunk next.first items l.items_are

    same : hunk ≡ next.hunk
    same = ap₂ (λ (e : TableEntry) (bs : List BlockValue). record { entry = e; blocks = bs }) next.entry_is blocks_same

    pub is_hunk : IsHunk (length v) hunk
    is_hunk = subst (IsHunk (length v)) (sym same) (subst (AllByRecursion (IsHunk (length v))) next.first l.each).0

    pub fits : length (relocations hunk) ≤ room
    fits = subst (λ (h : HunkValue). length (relocations h) ≤ room) (sym same) (subst (AreWithin room) next.first l.room_is).0

    pub opened : first_blocks (drop 1 items) ≡ blocks.value
    opened = opened_are number l.left next.rest next.hunk next.first items l.items_are ∙ sym blocks_same

    -- It is the first of those that are left.
    pub gives : (old new : ℕ) → blocks.place ≡ old → new ≡ old + 4 * length (block_texts blocks.value) →
        GivesPart hunk_text (record { place = old; value = l.left }) (Some (record { place = blocks.place; value = hunk })) (record { place = new; value = next.rest })
    gives old new place after = (
      ap₂ (λ (n : ℕ) (hs : LoadFileValue). record { place = n; value = hs }) (sym place) (next.first ∙ ap (λ (h : HunkValue). h ∷ next.rest) (sym same)),
      after ∙ ap (λ (n : ℕ). n + 4 * length (block_texts blocks.value)) (sym place),
    )

  abbrev pub one_less : (after : List ItemValue) (same_room : ℕ) → after ≡ after_blocks (drop 1 items) → same_room ≡ room → HunksLeft v same_room (number + 1) new after
  one_less after same_room is same = record {
    left = next.rest;
    entries_are = next.entries_are;
    items_are = is ∙ left_are number l.left next.rest next.hunk next.first items l.items_are;
    number_is = omega (arith, l.number_is, ap (λ (hs : LoadFileValue). length hs) next.first);
    each = (subst (AllByRecursion (IsHunk (length v))) next.first l.each).1;
    room_is = subst (λ (n : ℕ). AreWithin n next.rest) (sym same) (subst (AreWithin room) next.first l.room_is).1;
  }
