-- Ranges that are handed over one by one are all that stays.
use Rattle.std.proofs.Common.{◌≡◌, ℕ, ◌+◌, ◌-◌, ◌*◌, ◌≤◌, Bool, true, false, cond, Some, None, List, [], ◌∷◌, ◌++◌, length, take, drop, sym, ap, subst, ◌∙◌, append_assoc, append-nil, arith}
use Rattle.std.proofs.Math.Seq.{take-add}
use Rattle.std.specs.{Prelude.slice_range, List.flat_map}
use Rattle.std.proofs.lemmas.List.{drop-drop, take_at}
use Rattle.hunk_words.specs.Longs.{bytes_of}
use Rattle.hunk_words.proofs.LongLaws.{bytes_of-append, bytes_of-nil, length-bytes_of}
use Rattle.hunk_blocks.specs.Placed.{Placed}
use Rattle.hunk_files.specs.{Items.{ItemValue, ItemsStand, item_text}, ItemViews.{kept_text, stays}, InPlace.GivesPart}
use Rattle.hunk_files.proofs.views.PlaceLaws.{stand_after, stand_first}

-- ---- ranges

-- A range that begins where it ends is empty.
pub range-none : (bytes : List ℕ) (at : ℕ) → slice_range bytes at at ≡ []
range-none bytes at = ap (λ (n : ℕ). take n (drop at bytes)) (let none : at - at ≡ 0 = omega arith in none)

-- A range that goes on over a text is the range and the text.
pub range-text : (bytes : List ℕ) (from to end : ℕ) (words rest : List ℕ) → from ≤ to → end ≡ to + 4 * length words → drop to bytes ≡ bytes_of words ++ rest →
    slice_range bytes from end ≡ slice_range bytes from to ++ bytes_of words
range-text bytes from to end words rest ordered e stands =
    let size : ℕ = 4 * length words in
    let count : end - from ≡ (to - from) + size = omega (arith, ordered, e) in
    let there : (to - from) + from ≡ to = omega (arith, ordered) in
    ap (λ (n : ℕ). take n (drop from bytes)) count
    ∙ take-add (to - from) size (drop from bytes)
    ∙ ap (λ (xs : List ℕ). slice_range bytes from to ++ take size xs) (drop-drop (to - from) from bytes ∙ ap (λ (n : ℕ). drop n bytes) (let same : from + (to - from) ≡ to = omega (arith, ordered) in same) ∙ stands)
    ∙ ap (λ (xs : List ℕ). slice_range bytes from to ++ xs) (take_at (bytes_of words) rest size (length-bytes_of words))

-- ---- the items of a file

-- the bytes before items, and what stays of these
abbrev pub whole_text : List ℕ → Placed (List ItemValue) → List ℕ
whole_text bytes items = slice_range bytes 0 items.place ++ bytes_of (flat_map kept_text items.value)

-- What was taken, the range that is pending, and what stays of the items that are left are the whole.
pub record ItemsStripped {T : Type 0} (takes : T → List ℕ → T → Type 0) (old now : T) (bytes whole : List ℕ) (from : ℕ) (left : Placed (List ItemValue)) : Type 0 where
  pub taken : List ℕ
  pub took : takes old taken now
  pub ordered : from ≤ left.place
  pub stand : ItemsStand bytes left
  pub split : taken ++ (slice_range bytes from left.place ++ bytes_of (flat_map kept_text left.value)) ≡ whole

module _ {T : Type 0} (takes : T → List ℕ → T → Type 0) (more : (a b c : T) (xs ys : List ℕ) → takes a xs b → takes b ys c → takes a (xs ++ ys) c) (old : T) (bytes whole : List ℕ) where
  module _ (now : T) (from : ℕ) (left : Placed (List ItemValue)) (item : Placed ItemValue) (after : Placed (List ItemValue)) (s : ItemsStripped takes old now bytes whole from left)
      (gives : GivesPart item_text left (Some item) after) where
    pub next : ItemsStripped takes old now bytes whole from (record { place = item.place; value = item.value ∷ after.value })
    next = subst (λ (p : Placed (List ItemValue)). ItemsStripped takes old now bytes whole from p) gives.0 s

    pending : List ℕ
    pending = slice_range bytes from item.place

    -- the item's own longwords, where it stays, and what stays of the others
    stay : Bool → List ℕ
    stay k = bytes_of (cond k (item_text item.value) [] ++ flat_map kept_text after.value)

    pub item_stays : stays item.value ≡ true → ItemsStripped takes old now bytes whole from after
    unfolding next pending stay
    item_stays e =
        let text = item_text item.value in
        let rest = bytes_of (flat_map kept_text after.value) in
        record {
          taken = next.taken;
          took = next.took;
          ordered = omega (arith, next.ordered, gives.1);
          stand = stand_after next.stand after.place gives.1;
          split =
              ap (λ (xs : List ℕ). next.taken ++ xs)
              (ap (λ (xs : List ℕ). xs ++ rest) (range-text bytes from item.place after.place text _ next.ordered gives.1 (stand_first next.stand))
              ∙ append_assoc pending (bytes_of text) rest
              ∙ ap (λ (xs : List ℕ). pending ++ xs) (sym (bytes_of-append text (flat_map kept_text after.value)) ∙ ap stay (sym e)))
              ∙ next.split;
        }

    pub item_goes : stays item.value ≡ false → (new : T) → takes now (slice_range bytes from item.place) new → ItemsStripped takes old new bytes whole after.place after
    unfolding next pending stay
    item_goes e new took =
        let none = slice_range bytes after.place after.place in
        let rest = bytes_of (flat_map kept_text after.value) in
        record {
          taken = next.taken ++ pending;
          took = more old now new next.taken pending next.took took;
          ordered = omega arith;
          stand = stand_after next.stand after.place gives.1;
          split =
              append_assoc next.taken pending (none ++ rest)
              ∙ ap (λ (xs : List ℕ). next.taken ++ (pending ++ xs)) (ap (λ (xs : List ℕ). xs ++ rest) (range-none bytes after.place) ∙ ap stay (sym e))
              ∙ next.split;
        }

  -- The last range goes out too.
  pub all_items : (now new : T) (from : ℕ) (left after : Placed (List ItemValue)) → ItemsStripped takes old now bytes whole from left → GivesPart item_text left None after →
      takes now (slice_range bytes from after.place) new → takes old whole new
  all_items now new from left after s gives last =
      let range = slice_range bytes from after.place in
      let ends : range ≡ slice_range bytes from left.place ++ bytes_of (flat_map kept_text left.value) =
      sym (append-nil range) ∙ ap (λ (xs : List ℕ). range ++ xs) (sym bytes_of-nil)
      ∙ (λ i. slice_range bytes from (ap (λ (p : Placed (List ItemValue)). p.place) gives.1 i) ++ bytes_of (flat_map kept_text (sym gives.0 i))) in
      subst (λ (xs : List ℕ). takes old xs new) (ap (λ (xs : List ℕ). s.taken ++ xs) ends ∙ s.split) (more old now new s.taken range s.took last)
