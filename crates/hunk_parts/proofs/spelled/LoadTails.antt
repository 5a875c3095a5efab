-- Parts that pass, of a load file: the rest of the open hunk, and more hunks.
use Rattle.std.proofs.Common.{◌≡◌, ℕ, suc, Bool, true, false, cond, List, [], ◌∷◌, ◌++◌, length, refl, sym, ap, ap₂, subst, ◌∙◌, Option, Some, None}
use Rattle.std.specs.Prelude.{nat_lt}
use Rattle.std.specs.List.{AllByRecursion, filter, flat_map}
use Rattle.hunk_words.specs.Bits.{size_longs}
use Rattle.hunk_words.specs.declared.block_word.Kind.{Kind}
use Rattle.hunk_grammar.specs.declared.object_position.WordPlace.{WordPlace}
use Rattle.hunk_grammar.specs.declared.object_position.WordPlace.TheVariants.{BeforeUnits, BetweenHunks, InHunk}
use Rattle.hunk_blocks.specs.Values.{BlockBody, End}
use Rattle.hunk_files.specs.LoadFile.{HunkValue, IsHunk}
use Rattle.hunk_parts.specs.PartFaults.{is_open, list_after, place_after, refuse_row, size_of_part}
use Rattle.hunk_parts.specs.Parts.{FilePart, block_file_parts, block_part, entry_part, group_part, hunk_file_parts, hunk_part, item_parts, of_hunk, part, symbol_part, unit_part}
use Rattle.hunk_parts.specs.RowsText.{is_hunk}
use Rattle.hunk_parts.proofs.spelled.BlocksInFront.{FromBlock, IsListAt, from_block, no_items}
use Rattle.hunk_parts.proofs.spelled.BlockTests.{block_passes}
use Rattle.hunk_parts.proofs.spelled.HunkTests.{hunk_passes, unit_passes}
use Rattle.hunk_parts.proofs.spelled.ItemsInFront.{entry_in_front, group_in_front, symbol_in_front}
use Rattle.hunk_parts.proofs.spelled.PartKinds.{by_what, list_stays, other_refused}
use Rattle.hunk_parts.proofs.spelled.PartTests.{some_hunks}
use Rattle.hunk_parts.proofs.spelled.Passing.{Pass, longs_after, spot}
use Rattle.hunk_parts.proofs.spelled.Tails.{HasLongs, Tail}

-- Where no hunk is open, nothing is left of one.
pub no_tail : (hunks longs : ℕ) (place : WordPlace) (list : Option Kind) (rest : List FilePart) → is_open place ≡ false → IsListAt place list → Tail hunks longs place list rest rest
no_tail hunks longs (InHunk has) list rest closed h = absurd cc
no_tail hunks longs BeforeUnits (Some k) rest closed h = absurd (let e = h.0 in cc)
no_tail hunks longs BetweenHunks (Some k) rest closed h = absurd (let e = h.0 in cc)
no_tail hunks longs BeforeUnits None rest closed h = record { items = End; are_items = refl; blocks = []; are_blocks = tt; stand = refl; parts = refl }
no_tail hunks longs BetweenHunks None rest closed h = record { items = End; are_items = refl; blocks = []; are_blocks = tt; stand = refl; parts = refl }

-- A block of the open hunk begins what is left of it.
pub block_in_hunk : (hunks longs : ℕ) (has : Bool) (list : Option Kind) (qs rest : List FilePart) → IsListAt (InHunk has) list → FromBlock hunks longs (InHunk has) qs rest → Tail hunks longs (InHunk has) list qs rest
block_in_hunk hunks longs has list qs rest h from =
    let none = no_items hunks longs (InHunk has) list h in
    record {
      items = none.items;
      are_items = none.are;
      blocks = from.blocks;
      are_blocks = from.are_blocks;
      stand = from.order;
      parts = from.parts ∙ ap (λ (xs : List FilePart). xs ++ (flat_map block_file_parts from.blocks ++ rest)) (sym none.none);
    }

-- with no list open, blocks come first
pub blocks_first : (hunks longs : ℕ) (place : WordPlace) (qs rest : List FilePart) (t : Tail hunks longs place None qs rest) → qs ≡ flat_map block_file_parts t.blocks ++ rest
blocks_first hunks longs place qs rest t = t.parts ∙ ap (λ (b : BlockBody). item_parts b ++ (flat_map block_file_parts t.blocks ++ rest)) t.are_items

pub record LoadTail (hunks longs : ℕ) (place : WordPlace) (list : Option Kind) (qs : List FilePart) : Type 0 where
  pub more : List HunkValue
  pub are : AllByRecursion (IsHunk hunks) more
  pub count : length more ≡ length (filter is_hunk qs)
  pub tail : Tail hunks longs place list qs (flat_map hunk_file_parts more)

module _ (n : ℕ) where
  -- the same of what begins with a part that is not refused
  module _ (longs : ℕ) (place : WordPlace) (list : Option Kind) (word value : ℕ) (content offsets : List ℕ) (qs : List FilePart) (h : IsListAt place list) where
    abbrev q : ℕ → FilePart
    q what = part what word value content offsets

    abbrev Later : ℕ → Type 0
    Later what = LoadTail (suc n) (longs_after longs (q what)) (place_after place (size_of_part (q what))) (list_after list what word) qs

    abbrev InFront : ℕ → Type 0
    InFront what = refuse_row (spot (suc n) longs place list) (Some (q what)) ≡ None → HasLongs (q what) → Later what → LoadTail (suc n) longs place list (q what ∷ qs)

    is_here : (b : Bool) → cond (nat_lt 0 (suc n)) (is_open place) b ≡ true → is_open place ≡ true
    is_here b e = rw (some_hunks n) at e

    hunk_first : InFront hunk_part
    hunk_first e fit t =
        let p = hunk_passes (suc n) longs place list word value content offsets e in
        let x : HunkValue = record { entry = record { word = word; extra = value }; blocks = t.tail.blocks } in
        let same : q hunk_part ≡ of_hunk x.entry = ap₂ (λ (c os : List ℕ). part hunk_part word value c os) p.content_is p.offsets_are in
        let parts : q hunk_part ∷ qs ≡ flat_map hunk_file_parts (x ∷ t.more) =
        ap₂ (λ (y : FilePart) (ys : List FilePart). y ∷ ys) same (blocks_first (suc n) (size_longs word) (InHunk false) qs (flat_map hunk_file_parts t.more) t.tail) in
        record {
          more = x ∷ t.more;
          are = (record { entry = (fit.word, fit.value, p.extra); blocks = t.tail.are_blocks; order = t.tail.stand }, t.are);
          count = ap suc t.count;
          tail = subst (λ (ys : List FilePart). Tail (suc n) longs place list ys (flat_map hunk_file_parts (x ∷ t.more))) (sym parts) (no_tail (suc n) longs place list (flat_map hunk_file_parts (x ∷ t.more)) p.closed h);
        }

    unit_first : InFront unit_part
    unit_first e fit t =
        let p = unit_passes (suc n) longs place list word value content offsets e in
        let here = is_here _ p.in_place in
        absurd (let clash = p.closed in cc)

    in_open : (r : List FilePart) → is_open place ≡ true → FromBlock (suc n) longs place (q block_part ∷ qs) r → Tail (suc n) longs place list (q block_part ∷ qs) r
    in_open r here from = by_place place here h from
      where
        by_place : (at : WordPlace) → is_open at ≡ true → IsListAt at list → FromBlock (suc n) longs at (q block_part ∷ qs) r → Tail (suc n) longs at list (q block_part ∷ qs) r
        by_place (InHunk has) here k from = block_in_hunk (suc n) longs has list (q block_part ∷ qs) r k from
        by_place _ here k from = absurd cc

    block_first : InFront block_part
    block_first e fit t =
        let p = block_passes (suc n) longs place list word value content offsets e in
        let r = flat_map hunk_file_parts t.more in
        record {
          more = t.more;
          are = t.are;
          count = t.count;
          tail = in_open r (is_here _ p.in_place) (from_block (suc n) longs place list word value content offsets qs r e fit t.tail);
        }

    group_first : InFront group_part
    group_first e fit t = record { more = t.more; are = t.are; count = t.count; tail = group_in_front (suc n) longs place list word value content offsets qs (flat_map hunk_file_parts t.more) e fit t.tail }

    symbol_first : InFront symbol_part
    symbol_first e fit t = record { more = t.more; are = t.are; count = t.count; tail = symbol_in_front (suc n) longs place list word value content offsets qs (flat_map hunk_file_parts t.more) e fit t.tail }

    entry_first : InFront entry_part
    entry_first e fit t = record { more = t.more; are = t.are; count = t.count; tail = entry_in_front (suc n) longs place list word value content offsets qs (flat_map hunk_file_parts t.more) e fit t.tail }

    part_first : (what : ℕ) → InFront what
    part_first = by_what InFront hunk_first unit_first block_first group_first symbol_first entry_first
        (λ what o e fit t. absurd (other_refused (spot (suc n) longs place list) what word value content offsets o e))

  -- Parts that pass are the rest of a load file.
  pub load_tail : (longs : ℕ) (place : WordPlace) (list : Option Kind) (qs : List FilePart) → AllByRecursion HasLongs qs → Pass (suc n) longs place list qs → IsListAt place list → LoadTail (suc n) longs place list qs
  load_tail longs place list [] fit pass h = record { more = []; are = tt; count = refl; tail = no_tail (suc n) longs place list [] pass.0 h }
  load_tail longs place list (q ∷ qs) fit pass h =
      part_first longs place list q.word q.value q.content q.offsets qs h q.what pass.0 fit.0
      (load_tail (longs_after longs q) (place_after place (size_of_part q)) (list_after list q.what q.word) qs fit.1 pass.1
      (list_stays (suc n) longs place list q.word q.value q.content q.offsets h q.what pass.0))
