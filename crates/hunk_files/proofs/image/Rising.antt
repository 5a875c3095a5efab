-- Offsets in rising order: neighbours decide which offsets are close.
use Rattle.std.proofs.Common.{rules, ◌≡◌, ℕ, zero, suc, ◌+◌, ◌<◌, ◌≤◌, List, length, get_or, arith, ◌∙◌, subst, refl, ◌-◌, ◌⊎◌, inl, inr}
use Rattle.std.proofs.lemmas.{List.get_or_default, Bool.cases_lt, List.Elements.Contains-get_or}
use Rattle.std.specs.{List.Contains, List.Sorted.{IsNonDecreasing, IsPermutation}}
use Rattle.std.proofs.lemmas.List.Sorted.{Contains-permutation, IsPermutation-sym}
use Rattle.hunk_files.specs.Overlap.{IsClose, AreApart, IsFirstOverlap}

-- an offset, and where it stands
pub record Stands (xs : List ℕ) (x : ℕ) : Type 0 where
  pub at : ℕ
  pub inside : at < length xs
  pub is : get_or xs at 0 ≡ x

stands : (xs : List ℕ) (x : ℕ) → Contains xs x → Stands xs x
stands xs x c = record { at = c.0; inside = c.1; is = get_or_default xs c.0 0 x c.1 ∙ c.2 }

contains_at : (xs : List ℕ) (i x : ℕ) → i < length xs → get_or xs i 0 ≡ x → Contains xs x
contains_at xs i x l e = let P : ℕ → Type 0 = λ y. Contains xs y in subst P e (Contains-get_or xs i 0 l)

abbrev pub NoneBefore : List ℕ → ℕ → Type 0
NoneBefore xs e = (k : ℕ) → k + 1 < e → IsClose (get_or xs k 0) (get_or xs (k + 1) 0) → ⊥

-- one place further
step_up : (a b c : ℕ) → (a ≡ b) ⊎ (a + 4 ≤ b) → b ≤ c → (IsClose b c → ⊥) → (a ≡ c) ⊎ (a + 4 ≤ c)
step_up a b c h m n = search rules

-- from a place on the offsets are the same for a while, and then far
far_or_same : (xs : List ℕ) (e i n : ℕ) → IsNonDecreasing xs → NoneBefore xs e → i + n < e → i + n < length xs →
    (get_or xs i 0 ≡ get_or xs (i + n) 0) ⊎ (get_or xs i 0 + 4 ≤ get_or xs (i + n) 0)
far_or_same xs e i zero up none h l = let P : ℕ → Type 0 = λ k. (get_or xs i 0 ≡ get_or xs k 0) ⊎ (get_or xs i 0 + 4 ≤ get_or xs k 0) in subst P (let z : i ≡ i + 0 = omega arith in z) (inl refl)
far_or_same xs e i (suc n) up none h l =
    let P : ℕ → Type 0 = λ k. (get_or xs i 0 ≡ get_or xs k 0) ⊎ (get_or xs i 0 + 4 ≤ get_or xs k 0) in
    let same : i + n + 1 ≡ i + suc n = omega arith in
    subst P same (step_up _ (get_or xs (i + n) 0) (get_or xs (i + n + 1) 0) (far_or_same xs e i n up none (omega arith) (omega arith)) (up (i + n) (i + n + 1) 0 (omega arith) (omega arith)) (none (i + n) (omega arith)))

far_at : (xs : List ℕ) (e i j : ℕ) → IsNonDecreasing xs → NoneBefore xs e → i ≤ j → j < e → j < length xs →
    (get_or xs i 0 ≡ get_or xs j 0) ⊎ (get_or xs i 0 + 4 ≤ get_or xs j 0)
far_at xs e i j up none le h l =
    let P : ℕ → Type 0 = λ k. (get_or xs i 0 ≡ get_or xs k 0) ⊎ (get_or xs i 0 + 4 ≤ get_or xs k 0) in
    let same : i + (j - i) ≡ j = omega arith in
    subst P same (far_or_same xs e i (j - i) up none (omega arith) (omega arith))

-- a smaller offset stands before
before : (xs : List ℕ) (i j : ℕ) → IsNonDecreasing xs → i < length xs → get_or xs i 0 < get_or xs j 0 → i < j
before xs i j up l h = elim (cases_lt i j) [ inl less ↦ less | inr ge ↦ absurd (let m = up j i 0 ge l in omega (arith, m)) ]

pub none_apart : (xs : List ℕ) (e : ℕ) → IsNonDecreasing xs → length xs ≤ e → NoneBefore xs e → AreApart xs
none_apart xs e up all none a b ha hb close =
    let s = stands xs a ha in
    let t = stands xs b hb in
    let less : get_or xs s.at 0 < get_or xs t.at 0 = omega (arith, s.is, t.is, close.0) in
    elim (far_at xs e s.at t.at up none (let b = before xs s.at t.at up s.inside less in omega (arith, b)) (omega (arith, t.inside)) t.inside) [
      | inl same ↦ omega (arith, same, less)
      | inr far ↦ omega (arith, far, s.is, t.is, close.1)
    ]

pub first_is : (xs : List ℕ) (i : ℕ) → IsNonDecreasing xs → i + 1 < length xs → NoneBefore xs (i + 1) → IsClose (get_or xs i 0) (get_or xs (i + 1) 0) →
    IsFirstOverlap xs (get_or xs i 0) (get_or xs (i + 1) 0)
first_is xs i up l none close =
    record {
      has_smaller = contains_at xs i _ (omega arith) refl;
      has_larger = contains_at xs (i + 1) _ l refl;
      close = close;
      neighbours = λ c h less.
          let s = stands xs c h in
          let later = before xs i s.at up (omega arith) (omega (arith, less, s.is)) in
          let m = up (i + 1) s.at 0 (omega (arith, later)) s.inside in
          omega (arith, m, s.is);
      least = λ c d hc hd near.
          let s = stands xs c hc in
          let t = stands xs d hd in
          elim (cases_lt c (get_or xs i 0)) [
            | inr ge ↦ ge
            | inl less ↦
                let early = before xs s.at i up s.inside (omega (arith, less, s.is)) in
                elim (cases_lt t.at (i + 1)) [
                  | inl sooner ↦
                      let later = before xs s.at t.at up s.inside (omega (arith, s.is, t.is, near.0)) in
                      elim (far_at xs (i + 1) s.at t.at up none (omega (arith, later)) sooner t.inside) [
                        | inl same ↦ absurd (omega (arith, same, s.is, t.is, near.0))
                        | inr far ↦ absurd (omega (arith, far, s.is, t.is, near.1))
                      ]
                  | inr beyond ↦
                      let m = up (i + 1) t.at 0 beyond t.inside in
                      elim (far_at xs (i + 1) s.at i up none (omega (arith, early)) (omega arith) (omega arith)) [
                        | inl same ↦ absurd (omega (arith, same, s.is, less))
                        | inr far ↦ absurd (omega (arith, far, m, s.is, t.is, near.1, close.0))
                      ]
                ]
          ];
    }

-- ---- in another order

pub apart_in_order : (xs ys : List ℕ) → IsPermutation xs ys → AreApart ys → AreApart xs
apart_in_order xs ys p h a b ha hb = h a b (Contains-permutation xs ys a p ha) (Contains-permutation xs ys b p hb)

pub first_in_order : (xs ys : List ℕ) (a b : ℕ) → IsPermutation xs ys → IsFirstOverlap ys a b → IsFirstOverlap xs a b
first_in_order xs ys a b p h =
    let q = IsPermutation-sym xs ys p in
    record {
      has_smaller = Contains-permutation ys xs a q h.has_smaller;
      has_larger = Contains-permutation ys xs b q h.has_larger;
      close = h.close;
      neighbours = λ c hc. h.neighbours c (Contains-permutation xs ys c p hc);
      least = λ c d hc hd. h.least c d (Contains-permutation xs ys c p hc) (Contains-permutation xs ys d p hd);
    }
