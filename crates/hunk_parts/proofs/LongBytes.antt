-- The bytes of longwords, one after the other.
use Rattle.std.proofs.Math.Seq.{take-append-add, take-append_seam}
use Rattle.std.proofs.lemmas.List.{nil_from_length}
use Rattle.std.proofs.Common.{append-nil, append_assoc, zero, suc, ◌≡◌, ◌<◌, ◌+◌, ◌-◌, ◌%◌, ◌∷◌, ◌++◌, ℕ, List, [], length, length-append, take, drop, arith, ap, ◌∙◌, refl, sym, subst}
use Rattle.std.specs.Int.{to_be_bytes, w32, w64}
use Rattle.hunk_words.specs.Longs.{IsBytes, bytes_of, longs}
use Rattle.hunk_words.proofs.LongLaws.{bytes_of-append, bytes_of-nil, bytes_of-one, length-bytes_of, length-longs, spelled}

pub long_bytes : (n : ℕ) → to_be_bytes w32 n ≡ bytes_of (n ∷ [])
long_bytes n = sym (bytes_of-one n)

pub low_bytes : (n : ℕ) → drop 4 (to_be_bytes w64 n) ≡ bytes_of (n ∷ [])
low_bytes n = sym (bytes_of-one n)

-- ---- zero bytes after bytes

zeros_after : (xs : List ℕ) → IsBytes xs → IsBytes (xs ++ 0 ∷ 0 ∷ 0 ∷ [])
zeros_after [] fit zero = omega arith
zeros_after [] fit (suc zero) = omega arith
zeros_after [] fit (suc (suc zero)) = omega arith
zeros_after [] fit (suc (suc (suc i))) = omega arith
zeros_after (x ∷ xs) fit zero = fit 0
zeros_after (x ∷ xs) fit (suc i) = zeros_after xs (λ k. fit (suc k)) i

-- those that make a longword of a begun one
pub padded : (xs : List ℕ) → IsBytes xs → xs ++ take (3 - (length xs + 3) % 4) (0 ∷ 0 ∷ 0 ∷ []) ≡ bytes_of (longs (xs ++ 0 ∷ 0 ∷ 0 ∷ []))
padded xs fit =
    let zeros : List ℕ = 0 ∷ 0 ∷ 0 ∷ [] in
    let words = bytes_of (longs (xs ++ zeros)) in
    let s = spelled (xs ++ zeros) (zeros_after xs fit) in
    let size : length words ≡ length xs + (3 - (length xs + 3) % 4) = omega (arith, length-bytes_of (longs (xs ++ zeros)), length-longs (xs ++ zeros), length-append xs zeros) in
    sym (take-append-add xs zeros (3 - (length xs + 3) % 4)) ∙ ap (λ (n : ℕ). take n (xs ++ zeros)) (sym size) ∙ ap (λ (ys : List ℕ). take (length words) ys) s.split ∙ take-append_seam words s.over

-- the same, where one is begun
pub padded_begun : (xs : List ℕ) → IsBytes xs → 0 < length xs % 4 → xs ++ take (4 - length xs % 4) (0 ∷ 0 ∷ 0 ∷ []) ≡ bytes_of (longs (xs ++ 0 ∷ 0 ∷ 0 ∷ []))
padded_begun xs fit begun =
    let same : 4 - length xs % 4 ≡ 3 - (length xs + 3) % 4 = omega (arith, begun) in
    ap (λ (n : ℕ). xs ++ take n (0 ∷ 0 ∷ 0 ∷ [])) same ∙ padded xs fit

-- and where none is
pub padded_whole : (xs : List ℕ) → IsBytes xs → length xs % 4 ≡ 0 → xs ≡ bytes_of (longs (xs ++ 0 ∷ 0 ∷ 0 ∷ []))
padded_whole xs fit four =
    let none : 0 ≡ 3 - (length xs + 3) % 4 = omega (arith, four) in
    sym (append-nil xs) ∙ ap (λ (n : ℕ). xs ++ take n (0 ∷ 0 ∷ 0 ∷ [])) none ∙ padded xs fit

-- Whole longwords are their bytes.
pub whole : (xs : List ℕ) → IsBytes xs → length xs % 4 ≡ 0 → xs ≡ bytes_of (longs xs)
whole xs fit four =
    let s = spelled xs fit in
    let size = length-append (bytes_of (longs xs)) s.over in
    let none : length s.over ≡ 0 = omega (arith, four, size, ap length s.split, length-bytes_of (longs xs), length-longs xs, s.few) in
    s.split ∙ ap (λ (ys : List ℕ). bytes_of (longs xs) ++ ys) (nil_from_length s.over none) ∙ append-nil (bytes_of (longs xs))

-- ---- what takes the bytes of longwords

-- some longwords were taken, and with those that are left they are all
abbrev pub PutUpTo : {S : Type 0} → (S → List ℕ → S → Type 0) → S → S → List ℕ → List ℕ → Type 0
PutUpTo Takes a b left all = (done : List ℕ) × (Takes a (bytes_of done) b × (done ++ left ≡ all))

module _ {S : Type 0} (Takes : S → List ℕ → S → Type 0) (more : (a b c : S) (xs ys : List ℕ) → Takes a xs b → Takes b ys c → Takes a (xs ++ ys) c) where
  -- those of the one list after those of the other
  pub longs_more : (a b c : S) (xs ys : List ℕ) → Takes a (bytes_of xs) b → Takes b (bytes_of ys) c → Takes a (bytes_of (xs ++ ys)) c
  longs_more a b c xs ys first next = subst (λ (zs : List ℕ). Takes a zs c) (sym (bytes_of-append xs ys)) (more a b c (bytes_of xs) (bytes_of ys) first next)

  module _ (none : (a : S) → Takes a [] a) where
    pub longs_none : (a : S) (xs : List ℕ) → xs ≡ [] → Takes a (bytes_of xs) a
    longs_none a xs empty = subst (λ (zs : List ℕ). Takes a zs a) (sym (ap bytes_of empty ∙ bytes_of-nil)) (none a)

    pub all_left : (a : S) (all : List ℕ) → PutUpTo Takes a a all all
    all_left a all = ([], (longs_none a [] refl, refl))

  pub put_on : (a b c : S) (here rest left all : List ℕ) → left ≡ here ++ rest → PutUpTo Takes a b left all → Takes b (bytes_of here) c → PutUpTo Takes a c rest all
  put_on a b c here rest left all e put next =
      (put.0 ++ here, (longs_more a b c put.0 here put.1.0 next, append_assoc put.0 here rest ∙ ap (λ (xs : List ℕ). put.0 ++ xs) (sym e) ∙ put.1.1))

  pub put_all : (a b c : S) (last all : List ℕ) → PutUpTo Takes a b last all → Takes b (bytes_of last) c → Takes a (bytes_of all) c
  put_all a b c last all put next = subst (λ (xs : List ℕ). Takes a (bytes_of xs) c) put.1.1 (longs_more a b c put.0 last put.1.0 next)
