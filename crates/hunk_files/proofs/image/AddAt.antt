-- What an addition at an offset does to bytes.
use Rattle.std.proofs.Common.{◌≡◌, ℕ, suc, ◌+◌, ◌-◌, ◌%◌, ◌^◌, ◌<◌, ◌≤◌, min, List, ◌++◌, length, get_or, take, drop, refl, sym, ap, ◌∙◌, append_assoc, arith, ◌⊎◌, inl, inr}
use Rattle.std.proofs.lemmas.{Nat.from_be_bytes-to_be_bytes_4, Bool.cases_lt}
use Rattle.std.specs.Int.{w32, to_be_bytes, from_be_bytes}
use Rattle.std.proofs.lemmas.List.{length-append, length-take, length-take-le, length-drop, get_or_append_left, get_or-append_right, get_or-take, get_or-drop, get_or_past, drop_at, take_at, ext_get_or}
use Rattle.hunk_words.specs.Longs.{IsBytes}
use Rattle.hunk_files.specs.{Image.add_at, SumImage.long_at}

-- ---- four bytes put over others

module _ (s b : List ℕ) (o : ℕ) (inside : o + 4 ≤ length s) (four : length b ≡ 4) where
  front : length (take o s) ≡ o
  front = length-take-le o s (omega (arith, inside))

  start : length (take o s ++ b) ≡ o + 4
  start = omega (arith, length-append (take o s) b, front, four)

  pub splice_length : length (take o s ++ b ++ drop (o + 4) s) ≡ length s
  splice_length = omega (arith, length-append (take o s ++ b) (drop (o + 4) s), start, length-drop (o + 4) s, inside)

  pub splice_before : (i : ℕ) → i < o → get_or (take o s ++ b ++ drop (o + 4) s) i 0 ≡ get_or s i 0
  splice_before i h =
      get_or_append_left (take o s ++ b) (drop (o + 4) s) 0 i (omega (arith, start))
      ∙ get_or_append_left (take o s) b 0 i (omega (arith, front))
      ∙ get_or-take o s i 0 h

  pub splice_after : (i : ℕ) → o + 4 ≤ i → get_or (take o s ++ b ++ drop (o + 4) s) i 0 ≡ get_or s i 0
  splice_after i h =
      get_or-append_right (take o s ++ b) (drop (o + 4) s) (o + 4) i 0 start h
      ∙ get_or-drop (o + 4) s (i - (o + 4)) 0
      ∙ ap (λ (k : ℕ). get_or s k 0) (omega arith)

  pub splice_here : (i : ℕ) → o ≤ i → i < o + 4 → get_or (take o s ++ b ++ drop (o + 4) s) i 0 ≡ get_or b (i - o) 0
  splice_here i low high =
      get_or_append_left (take o s ++ b) (drop (o + 4) s) 0 i (omega (arith, start))
      ∙ get_or-append_right (take o s) b o i 0 front low

  pub splice_long : take 4 (drop o (take o s ++ b ++ drop (o + 4) s)) ≡ b
  splice_long =
      ap (λ (l : List ℕ). take 4 (drop o l)) (append_assoc (take o s) b (drop (o + 4) s))
      ∙ ap (λ (l : List ℕ). take 4 l) (drop_at (take o s) (b ++ drop (o + 4) s) o front)
      ∙ take_at b (drop (o + 4) s) 4 four

-- ---- longs and bytes

pub same_long : (s t : List ℕ) (p : ℕ) → length s ≡ length t → ((i : ℕ) → p ≤ i → i < p + 4 → get_or s i 0 ≡ get_or t i 0) → take 4 (drop p s) ≡ take 4 (drop p t)
same_long s t p e same =
    ext_get_or 0 (take 4 (drop p s)) (take 4 (drop p t))
    (length-take 4 (drop p s) ∙ ap (λ (n : ℕ). min 4 n) (length-drop p s ∙ ap (λ (n : ℕ). n - p) e ∙ sym (length-drop p t)) ∙ sym (length-take 4 (drop p t)))
    (λ i h.
    let less : i < 4 = omega (arith, h, length-take 4 (drop p s)) in
    get_or-take 4 (drop p s) i 0 less ∙ get_or-drop p s i 0 ∙ same (p + i) (omega arith) (omega arith) ∙ sym (get_or-take 4 (drop p t) i 0 less ∙ get_or-drop p t i 0))

pub bytes_of_word : (x : ℕ) → IsBytes (to_be_bytes w32 x)
bytes_of_word x (suc (suc (suc (suc i)))) = omega arith
bytes_of_word x _ = omega arith

pub bytes_in_long : (s : List ℕ) (p : ℕ) → IsBytes s → IsBytes (take 4 (drop p s))
bytes_in_long s p h i =
    elim (cases_lt i 4) [
      | inl less ↦ omega (arith, get_or-take 4 (drop p s) i 0 less, get_or-drop p s i 0, h (p + i))
      | inr past ↦ omega (arith, get_or_past (take 4 (drop p s)) i 0 (omega (arith, length-take 4 (drop p s), past)))
    ]

long_fits : (b : List ℕ) → IsBytes b → from_be_bytes w32 b < 2 ^ 32
long_fits b h = omega (arith, h 0, h 1, h 2, h 3)

pub long_at_fits : (s : List ℕ) (p : ℕ) → IsBytes s → long_at s p < 2 ^ 32
long_at_fits s p h = long_fits (take 4 (drop p s)) (bytes_in_long s p h)

-- ---- an addition

module _ (s : List ℕ) (o n : ℕ) (inside : o + 4 ≤ length s) where
  pub added_length : length (add_at s o n) ≡ length s
  added_length = splice_length s (to_be_bytes w32 ((long_at s o + n) % 2 ^ 32)) o inside refl

  pub added_beside : (i : ℕ) → (i < o) ⊎ (o + 4 ≤ i) → get_or (add_at s o n) i 0 ≡ get_or s i 0
  added_beside i h = elim h [ inl less ↦ splice_before s (to_be_bytes w32 ((long_at s o + n) % 2 ^ 32)) o inside refl i less | inr more ↦ splice_after s (to_be_bytes w32 ((long_at s o + n) % 2 ^ 32)) o inside refl i more ]

  pub added_bytes : IsBytes s → IsBytes (add_at s o n)
  added_bytes h i =
      elim (cases_lt i o) [
        | inl less ↦ omega (arith, added_beside i (inl less), h i)
        | inr le ↦ elim (cases_lt i (o + 4)) [
          | inr more ↦ omega (arith, added_beside i (inr more), h i)
          | inl in_long ↦ omega (arith, splice_here s (to_be_bytes w32 ((long_at s o + n) % 2 ^ 32)) o inside refl i le in_long, bytes_of_word ((long_at s o + n) % 2 ^ 32) (i - o))
        ]
      ]

  pub added_here : long_at (add_at s o n) o ≡ (long_at s o + n) % 2 ^ 32
  added_here =
      ap (λ (b : List ℕ). from_be_bytes w32 b) (splice_long s (to_be_bytes w32 ((long_at s o + n) % 2 ^ 32)) o inside refl)
      ∙ from_be_bytes-to_be_bytes_4 ((long_at s o + n) % 2 ^ 32) (omega arith)

  pub added_away : (p : ℕ) → (p + 4 ≤ o) ⊎ (o + 4 ≤ p) → long_at (add_at s o n) p ≡ long_at s p
  added_away p h =
      ap (λ (b : List ℕ). from_be_bytes w32 b)
      (same_long (add_at s o n) s p added_length (λ i low high. added_beside i (elim h [ inl l ↦ inl (omega arith) | inr r ↦ inr (omega arith) ])))
