-- Longwords that stand in bytes, and the rows that point at them.
use Rattle.std.proofs.Common.{◌≡◌, ℕ, ◌+◌, ◌*◌, Bool, false, nat_lt, nat_eq, List, [], ◌∷◌, ◌++◌, length, map, take, drop, refl, sym, ap, ap₂, ◌∙◌, append_assoc, append-nil, arith, Option, Some, None, if◌then◌else◌}
use Rattle.std.specs.List.{AllByRecursion, flat_map}
use Rattle.std.proofs.Math.Seq.{take-append_seam}
use Rattle.std.proofs.lemmas.Bool.{le-ltb, Decides.nat_tests}
use Rattle.std.proofs.lemmas.List.{drop-drop, drop_at, length-append, length-drop, map-append}
use Rattle.hunk_words.specs.Longs.{AreLongs, IsLong, bytes_of, longs}
use Rattle.hunk_words.proofs.LongLaws.{bytes_of-append, bytes_of-nil, length-bytes_of, longs-bytes_of}
use Rattle.hunk_blocks.proofs.Lists.{All-append}
use Rattle.hunk_parts.specs.{Listing.in_turn, PartRows.row_at, Parts.{FilePart, run_at, seen, seen_by}}
use Rattle.hunk_parts.specs.declared.part_row.PartRow.{PartRow}

-- From this byte on stand these longwords.
pub record StandAt (bytes : List ℕ) (place : ℕ) (words : List ℕ) : Type 0 where
  pub are_longs : AreLongs words
  pub rest : List ℕ
  pub text : drop place bytes ≡ bytes_of words ++ rest

pub none_stand : (bytes : List ℕ) (place : ℕ) → StandAt bytes place []
none_stand bytes place = record { are_longs = tt; rest = drop place bytes; text = ap (λ (ws : List ℕ). ws ++ drop place bytes) (sym bytes_of-nil) }

-- ---- those in front, and those after them

All-front : {A : Type 0} (P : A → Type 0) (xs ys : List A) → AllByRecursion P (xs ++ ys) → AllByRecursion P xs
All-front P [] ys all = tt
All-front P (x ∷ xs) ys all = (all.0, All-front P xs ys all.1)

All-after : {A : Type 0} (P : A → Type 0) (xs ys : List A) → AllByRecursion P (xs ++ ys) → AllByRecursion P ys
All-after P [] ys all = all
All-after P (x ∷ xs) ys all = All-after P xs ys all.1

module _ (bytes : List ℕ) (place : ℕ) (xs ys : List ℕ) (s : StandAt bytes place (xs ++ ys)) where
  split : drop place bytes ≡ bytes_of xs ++ (bytes_of ys ++ s.rest)
  split = s.text ∙ ap (λ (bs : List ℕ). bs ++ s.rest) (bytes_of-append xs ys) ∙ append_assoc (bytes_of xs) (bytes_of ys) s.rest

  pub front_stands : StandAt bytes place xs
  front_stands = record { are_longs = All-front IsLong xs ys s.are_longs; rest = bytes_of ys ++ s.rest; text = split }

  pub rest_stands : StandAt bytes (place + 4 * length xs) ys
  rest_stands = record {
    are_longs = All-after IsLong xs ys s.are_longs;
    rest = s.rest;
    text =
        sym (drop-drop (4 * length xs) place bytes) ∙ ap (drop (4 * length xs)) split
        ∙ drop_at (bytes_of xs) (bytes_of ys ++ s.rest) (4 * length xs) (length-bytes_of xs);
  }

-- ---- a row that points at them

run_by : (bytes found : List ℕ) (none beyond : Bool) → none ≡ false → beyond ≡ false → (if none then Some [] else if beyond then None else Some found) ≡ Some found
run_by bytes found none beyond some within = ap₂ (λ (a b : Bool). if a then Some [] else if b then None else Some found) some within

pub run_stands : (bytes : List ℕ) (place : ℕ) (words : List ℕ) → StandAt bytes place words → run_at bytes place (4 * length words) ≡ Some (bytes_of words)
run_stands bytes place [] s = ap Some (sym bytes_of-nil)
run_stands bytes place (w ∷ ws) s =
    let words = w ∷ ws in
    let found : take (4 * length words) (drop place bytes) ≡ bytes_of words =
    ap₂ (λ (n : ℕ) (bs : List ℕ). take n bs) (sym (length-bytes_of words)) s.text ∙ take-append_seam (bytes_of words) s.rest in
    run_by bytes (take (4 * length words) (drop place bytes)) (nat_eq (4 * length words) 0) (nat_lt (length bytes) (place + 4 * length words))
    (grind (arith, nat_tests))
    (le-ltb (length bytes) (place + 4 * length words) (omega (
      arith,
      ap (λ (bs : List ℕ). length bs) s.text,
      length-drop place bytes,
      length-append (bytes_of words) s.rest,
      length-bytes_of words,
    )))
    ∙ ap Some found

-- What it is, seen there, is the part.
pub part_seen : (bytes : List ℕ) (content offsets : ℕ) (q : FilePart) → StandAt bytes content q.content → StandAt bytes offsets q.offsets → seen bytes (row_at content offsets q) ≡ Some q
part_seen bytes content offsets q has_content has_offsets =
    let words : longs (bytes_of q.content ++ 0 ∷ 0 ∷ 0 ∷ []) ≡ q.content = longs-bytes_of q.content (0 ∷ 0 ∷ 0 ∷ []) has_content.are_longs ∙ append-nil q.content in
    let targets : longs (bytes_of q.offsets) ≡ q.offsets = ap longs (sym (append-nil (bytes_of q.offsets))) ∙ longs-bytes_of q.offsets [] has_offsets.are_longs ∙ append-nil q.offsets in
    ap₂ (seen_by (row_at content offsets q)) (run_stands bytes content q.content has_content) (run_stands bytes offsets q.offsets has_offsets)
    ∙ ap₂ (λ (c o : List ℕ). Some (record q { content = c; offsets = o })) words targets

-- ---- items that stand one after the other

module _ {A : Type 0} (text : A → List ℕ) (Is : A → Type 0) where
  pub all_longs : ((x : A) → Is x → AreLongs (text x)) → (xs : List A) → AllByRecursion Is xs → AreLongs (flat_map text xs)
  all_longs each [] are = tt
  all_longs each (x ∷ xs) are = All-append IsLong (text x) (flat_map text xs) (each x are.0) (all_longs each xs are.1)

  module _ (bytes : List ℕ) (rows : ℕ → A → List PartRow) (parts : A → List FilePart)
      (each : (place : ℕ) (x : A) → Is x → StandAt bytes place (text x) → map (seen bytes) (rows place x) ≡ map Some (parts x)) where
    pub all_seen : (place : ℕ) (xs : List A) → AllByRecursion Is xs → StandAt bytes place (flat_map text xs) → map (seen bytes) (in_turn rows text place xs) ≡ map Some (flat_map parts xs)
    all_seen place [] are s = refl
    all_seen place (x ∷ xs) are s =
        let next = place + 4 * length (text x) in
        map-append (seen bytes) (rows place x) (in_turn rows text next xs)
        ∙ ap₂ (λ (ys zs : List (Option FilePart)). ys ++ zs) (each place x are.0 (front_stands bytes place (text x) (flat_map text xs) s))
        (all_seen next xs are.1 (rest_stands bytes place (text x) (flat_map text xs) s))
        ∙ sym (map-append Some (parts x) (flat_map parts xs))
