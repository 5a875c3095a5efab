-- Longwords in front of a list of bytes.
use Rattle.std.proofs.Common.{rules, ◌≡◌, ℕ, ◌+◌, ◌-◌, ◌*◌, ◌<◌, List, [], ◌∷◌, ◌++◌, length, take, drop, slice_index, slice_range, refl, sym, ap, ap₂, ◌∙◌, arith}
use Rattle.std.specs.List.{AllByRecursion}
use Rattle.std.proofs.lemmas.List.{length-drop, take_all, take-append-drop, drop-drop}
use Rattle.hunk_words.specs.Longs.{longs}
use Rattle.hunk_words.proofs.PartLaws.{longs-take, longs-drop}

pub All-left : {A : Type 0} (P : A → Type 0) (xs ys : List A) → AllByRecursion P (xs ++ ys) → AllByRecursion P xs
All-left P [] ys h = tt
All-left P (x ∷ xs) ys h = (h.0, All-left P xs ys h.1)

pub All-right : {A : Type 0} (P : A → Type 0) (xs ys : List A) → AllByRecursion P (xs ++ ys) → AllByRecursion P ys
All-right P [] ys h = h
All-right P (x ∷ xs) ys h = All-right P xs ys h.1

-- the first of the longwords from a place on
pub longs-first : (bytes : List ℕ) (at word : ℕ) → 0 < length (longs (drop at bytes)) → word ≡ slice_index (longs (take (length bytes - at) (drop at bytes))) 0 → longs (drop at bytes) ≡ word ∷ drop 1 (longs (drop at bytes))
longs-first bytes at word some e = search (rules, take_all, length-drop)

-- the longwords after a number of them
pub longs-after : (bytes : List ℕ) (at count : ℕ) → longs (drop (at + 4 * count) bytes) ≡ drop count (longs (drop at bytes))
longs-after bytes at count = ap longs (sym (drop-drop (4 * count) at bytes)) ∙ longs-drop (drop at bytes) count (4 * count) refl

-- the longwords from a place on, cut after a number of them
pub longs-cut : (bytes words : List ℕ) (at count : ℕ) → words ≡ slice_range bytes at (at + 4 * count) → longs (drop at bytes) ≡ longs words ++ longs (drop (at + 4 * count) bytes)
longs-cut bytes words at count w =
    sym (take-append-drop count (longs (drop at bytes)))
    ∙ ap₂ (λ xs ys. xs ++ ys) (sym (ap longs w ∙ longs-take (drop at bytes) count (at + 4 * count - at) (omega arith))) (sym (longs-after bytes at count))
