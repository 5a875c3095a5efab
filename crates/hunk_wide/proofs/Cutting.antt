-- A range of a list, cut in two.
use Rattle.std.proofs.Common.{◌≡◌, ℕ, zero, suc, ◌+◌, ◌-◌, ◌≤◌, List, [], ◌∷◌, ◌++◌, length, take, drop, refl, sym, ap, ◌∙◌, arith}
use Rattle.std.proofs.lemmas.List.{drop-drop, length-take}
use Rattle.std.proofs.Math.Seq.{take-append_seam}

-- a front, and what is taken after it
pub take_add : (n m : ℕ) (xs : List ℕ) → take (n + m) xs ≡ take n xs ++ take m (drop n xs)
take_add zero m xs = ap (λ (k : ℕ). take k xs) (omega arith)
take_add (suc n) m [] = none (suc n + m) m
  where
    none : (k m : ℕ) → take {A = ℕ} k [] ≡ take {A = ℕ} m []
    none zero zero = refl
    none zero (suc m) = refl
    none (suc k) zero = refl
    none (suc k) (suc m) = refl
take_add (suc n) m (x ∷ xs) = ap (λ (k : ℕ). take k (x ∷ xs)) (add n m) ∙ ap (λ (l : List ℕ). x ∷ l) (take_add n m xs)
  where
    add : (n m : ℕ) → suc n + m ≡ suc (n + m)
    add n m = omega arith

pub range_cut : (xs : List ℕ) (from to count : ℕ) → count ≤ to - from →
    take (to - from) (drop from xs) ≡ take count (drop from xs) ++ take (to - (from + count)) (drop (from + count) xs)
range_cut xs from to count fits =
    ap (λ (k : ℕ). take k (drop from xs)) (parts to from count fits)
    ∙ take_add count (to - (from + count)) (drop from xs)
    ∙ ap (λ (l : List ℕ). take count (drop from xs) ++ take (to - (from + count)) l) (drop-drop count from xs)
  where
    parts : (to from count : ℕ) → count ≤ to - from → to - from ≡ count + (to - (from + count))
    parts to from count fits = omega arith

-- The front goes to a buffer, which it fills up to there.
pub given_front : (bytes buf new : List ℕ) (from to count : ℕ) → count ≤ to - from → count ≤ length buf → new ≡ take (from + count - from) (drop from bytes) → length new ≡ length (take count buf) →
    take (to - from) (drop from bytes) ≡ take count (new ++ drop count buf) ++ take (to - (from + count)) (drop (from + count) bytes)
given_front bytes buf new from to count fits room is len =
    range_cut bytes from to count fits ∙ ap (λ (l : List ℕ). l ++ take (to - (from + count)) (drop (from + count) bytes)) (sym front)
  where
    size : (count from : ℕ) → from + count - from ≡ count
    size count from = omega arith

    long : length new ≡ count
    long = omega (arith, len, length-take count buf, room)

    front : take count (new ++ drop count buf) ≡ take count (drop from bytes)
    front =
        ap (λ (k : ℕ). take k (new ++ drop count buf)) (sym long) ∙ take-append_seam new (drop count buf)
        ∙ is ∙ ap (λ (k : ℕ). take k (drop from bytes)) (size count from)
