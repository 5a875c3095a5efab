-- Longwords, their bytes, and their places in a list of bytes.
use Rattle.std.proofs.Common.{◌≡◌, ℕ, zero, suc, ◌+◌, ◌-◌, ◌*◌, ◌/◌, ◌<◌, ◌≤◌, List, [], ◌∷◌, ◌++◌, length, get_or, take, drop, slice_range, refl, sym, ap, ap₂, ◌∙◌, append_assoc, arith}
use Rattle.std.specs.Int.{w32, from_be_bytes, to_be_bytes}
use Rattle.std.proofs.lemmas.Nat.{be_bytes_4, from_be_bytes-to_be_bytes_4}
use Rattle.hunk_words.specs.Longs.{longs, bytes_of, IsBytes, AreLongs}

-- ---- the bytes of longwords

pub bytes_of-nil : bytes_of [] ≡ []
unfolding bytes_of
bytes_of-nil = refl

pub bytes_of-one : (word : ℕ) → bytes_of (word ∷ []) ≡ to_be_bytes w32 word
unfolding bytes_of
bytes_of-one word = refl

pub bytes_of-cons : (word : ℕ) (words : List ℕ) → bytes_of (word ∷ words) ≡ bytes_of (word ∷ []) ++ bytes_of words
unfolding bytes_of
bytes_of-cons word words = refl

pub bytes_of-append : (xs ys : List ℕ) → bytes_of (xs ++ ys) ≡ bytes_of xs ++ bytes_of ys
bytes_of-append [] ys = rw bytes_of-nil refl
bytes_of-append (x ∷ xs) ys =
    bytes_of-cons x (xs ++ ys) ∙ ap (λ l. bytes_of (x ∷ []) ++ l) (bytes_of-append xs ys)
    ∙ sym (append_assoc (bytes_of (x ∷ [])) (bytes_of xs) (bytes_of ys)) ∙ ap (λ l. l ++ bytes_of ys) (sym (bytes_of-cons x xs))

pub length-bytes_of : (words : List ℕ) → length (bytes_of words) ≡ 4 * length words
unfolding bytes_of
length-bytes_of [] = refl
length-bytes_of (word ∷ words) = omega (arith, length-bytes_of words)

-- ---- what bytes spell

pub longs-bytes_of : (words rest : List ℕ) → AreLongs words → longs (bytes_of words ++ rest) ≡ words ++ longs rest
unfolding bytes_of
longs-bytes_of [] rest fit = refl
longs-bytes_of (word ∷ words) rest fit =
    ap₂ (λ (x : ℕ) (xs : List ℕ). x ∷ xs) (from_be_bytes-to_be_bytes_4 word fit.0) (longs-bytes_of words rest fit.1)

-- fewer than four bytes spell none
pub longs-few : (bytes : List ℕ) → length bytes < 4 → longs bytes ≡ []
longs-few [] few = refl
longs-few (a ∷ []) few = refl
longs-few (a ∷ b ∷ []) few = refl
longs-few (a ∷ b ∷ c ∷ []) few = refl
longs-few (a ∷ b ∷ c ∷ d ∷ rest) few = absurd (omega (arith, few))

pub length-longs : (bytes : List ℕ) → length (longs bytes) ≡ length bytes / 4
length-longs [] = omega arith
length-longs (a ∷ []) = omega arith
length-longs (a ∷ b ∷ []) = omega arith
length-longs (a ∷ b ∷ c ∷ []) = omega arith
length-longs (a ∷ b ∷ c ∷ d ∷ rest) = omega (arith, length-longs rest)

four : (a b c d : ℕ) (rest : List ℕ) → IsBytes (a ∷ b ∷ c ∷ d ∷ rest) → IsBytes (a ∷ b ∷ c ∷ d ∷ [])
four a b c d rest fit zero = fit 0
four a b c d rest fit (suc zero) = fit 1
four a b c d rest fit (suc (suc zero)) = fit 2
four a b c d rest fit (suc (suc (suc zero))) = fit 3
four a b c d rest fit (suc (suc (suc (suc i)))) = omega arith

after_four : (a b c d : ℕ) (rest : List ℕ) → IsBytes (a ∷ b ∷ c ∷ d ∷ rest) → IsBytes rest
after_four a b c d rest fit i = fit (suc (suc (suc (suc i))))

-- the first longword
pub in_place : (bytes : List ℕ) → IsBytes bytes → 4 ≤ length bytes → take 4 bytes ≡ bytes_of (get_or (longs bytes) 0 0 ∷ [])
unfolding bytes_of
in_place (a ∷ b ∷ c ∷ d ∷ rest) fit l =
    let cells : List ℕ = a ∷ b ∷ c ∷ d ∷ [] in
    sym (be_bytes_4 cells (from_be_bytes w32 cells) refl (four a b c d rest fit) refl)
in_place _ fit l = absurd (omega (arith, l))

-- the bytes of the longwords, and those over
pub record Spelled (bytes : List ℕ) : Type 0 where
  pub over : List ℕ
  pub few : length over < 4
  pub split : bytes ≡ bytes_of (longs bytes) ++ over

pub spelled : (bytes : List ℕ) → IsBytes bytes → Spelled bytes
unfolding bytes_of
spelled [] fit = record { over = []; few = omega arith; split = refl }
spelled (a ∷ []) fit = record { over = a ∷ []; few = omega arith; split = refl }
spelled (a ∷ b ∷ []) fit = record { over = a ∷ b ∷ []; few = omega arith; split = refl }
spelled (a ∷ b ∷ c ∷ []) fit = record { over = a ∷ b ∷ c ∷ []; few = omega arith; split = refl }
spelled (a ∷ b ∷ c ∷ d ∷ rest) fit =
    let r = spelled rest (after_four a b c d rest fit) in
    record {
      over = r.over;
      few = r.few;
      split =
          ap (λ (xs : List ℕ). a ∷ b ∷ c ∷ d ∷ xs) r.split
          ∙ ap (λ (xs : List ℕ). xs ++ bytes_of (longs rest) ++ r.over) (in_place (a ∷ b ∷ c ∷ d ∷ rest) fit (omega arith));
    }

pub longs_fit : (bytes : List ℕ) → IsBytes bytes → AreLongs (longs bytes)
longs_fit [] fit = tt
longs_fit (a ∷ []) fit = tt
longs_fit (a ∷ b ∷ []) fit = tt
longs_fit (a ∷ b ∷ c ∷ []) fit = tt
longs_fit (a ∷ b ∷ c ∷ d ∷ rest) fit = (omega (arith, fit 0, fit 1, fit 2, fit 3), longs_fit rest (after_four a b c d rest fit))

-- ---- the longword at a place

four-at : (bytes : List ℕ) (i : ℕ) → 4 * i + 4 ≤ length bytes → from_be_bytes w32 (take 4 (drop (4 * i) bytes)) ≡ get_or (longs bytes) i 0
four-at [] i within = absurd (omega (arith, within))
four-at (a ∷ []) i within = absurd (omega (arith, within))
four-at (a ∷ b ∷ []) i within = absurd (omega (arith, within))
four-at (a ∷ b ∷ c ∷ []) i within = absurd (omega (arith, within))
four-at (a ∷ b ∷ c ∷ d ∷ rest) zero within = refl
four-at (a ∷ b ∷ c ∷ d ∷ rest) (suc i) within =
    ap (λ (n : ℕ). from_be_bytes w32 (take 4 (drop n (a ∷ b ∷ c ∷ d ∷ rest)))) (after i) ∙ four-at rest i (omega (arith, within))
  where
    after : (i : ℕ) → 4 * suc i ≡ suc (suc (suc (suc (4 * i))))
    after i = omega arith

pub word_is : (bytes : List ℕ) (i : ℕ) → 4 * i + 4 ≤ length bytes → from_be_bytes w32 (slice_range bytes (4 * i) (4 * i + 4)) ≡ get_or (longs bytes) i 0
word_is bytes i within = ap (λ (n : ℕ). from_be_bytes w32 (take n (drop (4 * i) bytes))) (long-size (4 * i)) ∙ four-at bytes i within
  where
    long-size : (n : ℕ) → n + 4 - n ≡ 4
    long-size n = omega arith

-- ---- the same, byte by byte

abbrev pub cells : List ℕ → ℕ → List ℕ
cells bytes i = get_or bytes i 0 ∷ get_or bytes (i + 1) 0 ∷ get_or bytes (i + 2) 0 ∷ get_or bytes (i + 3) 0 ∷ []

cells-after : (a b c d : ℕ) (rest : List ℕ) (i j : ℕ) → j ≡ suc (suc (suc (suc i))) → cells (a ∷ b ∷ c ∷ d ∷ rest) j ≡ cells rest i
cells-after a b c d rest i j e =
    ap (cells (a ∷ b ∷ c ∷ d ∷ rest)) e ∙ (λ k. get_or rest i 0 ∷ at (i + 1) (suc (suc (suc (suc i))) + 1) (omega arith) k ∷ at (i + 2) (suc (suc (suc (suc i))) + 2) (omega arith) k ∷ at (i + 3) (suc (suc (suc (suc i))) + 3) (omega arith) k ∷ [])
  where
    at : (n m : ℕ) → m ≡ suc (suc (suc (suc n))) → get_or (a ∷ b ∷ c ∷ d ∷ rest) m 0 ≡ get_or rest n 0
    at n m e = ap (λ (k : ℕ). get_or (a ∷ b ∷ c ∷ d ∷ rest) k 0) e

pub word_of_bytes : (bytes : List ℕ) (i : ℕ) → 4 * i + 4 ≤ length bytes → from_be_bytes w32 (cells bytes (4 * i)) ≡ get_or (longs bytes) i 0
word_of_bytes [] i within = absurd (omega (arith, within))
word_of_bytes (a ∷ []) i within = absurd (omega (arith, within))
word_of_bytes (a ∷ b ∷ []) i within = absurd (omega (arith, within))
word_of_bytes (a ∷ b ∷ c ∷ []) i within = absurd (omega (arith, within))
word_of_bytes (a ∷ b ∷ c ∷ d ∷ rest) zero within = refl
word_of_bytes (a ∷ b ∷ c ∷ d ∷ rest) (suc i) within =
    ap (from_be_bytes w32) (cells-after a b c d rest (4 * i) (4 * suc i) (omega arith)) ∙ word_of_bytes rest i (omega (arith, within))
