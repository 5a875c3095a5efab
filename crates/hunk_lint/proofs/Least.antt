-- The least of the numbers that pass a test, in any order.
use Rattle.std.proofs.Common.{rules, ◌≡◌, ℕ, zero, suc, ◌≤◌, Bool, true, false, ltb, List, [], ◌∷◌, refl, sym, ap, subst, arith, Option, Some, None, ◌⊎◌, inl, inr}
use Rattle.std.specs.List.{All, Contains, filter}
use Rattle.std.specs.List.Sorted.{IsPermutation}
use Rattle.std.proofs.lemmas.{Bool.{cases_Bool, cond-true, cond-false, ltb-true, ltb-false, both_ways}, List.Elements.{All-cons, All-tail}}
use Rattle.std.proofs.lemmas.List.Sorted.{All-permutation, Contains-permutation}
use Rattle.hunk_lint.specs.Suspicious.{least, least_of}

-- ---- what a list has

here : (x : ℕ) (xs : List ℕ) → Contains (x ∷ xs) x
here x xs = (0, omega arith, refl)

later : (x m : ℕ) (xs : List ℕ) → Contains xs m → Contains (x ∷ xs) m
later x m xs c = (suc c.0, omega (arith, c.1), c.2)

first_or_later : (x m : ℕ) (xs : List ℕ) → Contains (x ∷ xs) m → (x ≡ m) ⊎ Contains xs m
first_or_later x m xs (zero, inside, is) = inl is
first_or_later x m xs (suc k, inside, is) = inr (k, omega (arith, inside), is)

-- ---- the least of a number and others

has_least : (n : ℕ) (xs : List ℕ) → Contains (n ∷ xs) (least_of n xs)
has_least n [] = here n []
has_least n (x ∷ xs) =
    elim (cases_Bool (ltb x n)) [
      | inl less ↦
          let e = cond-true (ltb x n) x n less in
          subst (λ (m : ℕ). Contains (n ∷ x ∷ xs) (least_of m xs)) (sym e) (later n _ (x ∷ xs) (has_least x xs))
      | inr more ↦
          let e = cond-false (ltb x n) x n more in
          subst (λ (m : ℕ). Contains (n ∷ x ∷ xs) (least_of m xs)) (sym e)
          (elim (first_or_later n (least_of n xs) xs (has_least n xs)) [
            | inl is ↦ (0, omega arith, is)
            | inr c ↦ later n _ (x ∷ xs) (later x _ xs c)
          ])
    ]

least_is_least : (n : ℕ) (xs : List ℕ) → All (λ m. least_of n xs ≤ m) (n ∷ xs)
least_is_least n [] = All-cons (λ m. n ≤ m) n [] (omega arith) (λ k d inside. absurd (omega arith))
least_is_least n (x ∷ xs) =
    elim (cases_Bool (ltb x n)) [
      | inl less ↦
          let all = least_is_least x xs in
          subst (λ (m : ℕ). All (λ y. least_of m xs ≤ y) (n ∷ x ∷ xs)) (sym (cond-true (ltb x n) x n less))
          (All-cons (λ y. least_of x xs ≤ y) n (x ∷ xs) (omega (arith, all 0 0 (omega arith), ltb-true x n less)) all)
      | inr more ↦
          let all = least_is_least n xs in
          subst (λ (m : ℕ). All (λ y. least_of m xs ≤ y) (n ∷ x ∷ xs)) (sym (cond-false (ltb x n) x n more))
          (All-cons (λ y. least_of n xs ≤ y) n (x ∷ xs) (all 0 0 (omega arith))
          (All-cons (λ y. least_of n xs ≤ y) x xs (omega (arith, all 0 0 (omega arith), ltb-false x n more)) (All-tail (λ y. least_of n xs ≤ y) n xs all)))
    ]

-- ---- of those that pass

pub record IsLeastOf (p : ℕ → Bool) (xs : List ℕ) (n : ℕ) : Type 0 where
  pub has : Contains xs n
  pub passes : p n ≡ true
  pub least : All (λ m. p m ≡ true → n ≤ m) xs

module _ (p : ℕ → Bool) where
  kept : (xs : List ℕ) (m : ℕ) → Contains (filter p xs) m → Contains xs m × (p m ≡ true)
  kept [] m c = absurd (omega (arith, c.1))
  kept (x ∷ xs) m c =
      elim (cases_Bool (p x)) [
        | inl passes ↦
            elim (first_or_later x m (filter p xs) (subst (λ (ys : List ℕ). Contains ys m) (cond-true (p x) (x ∷ filter p xs) (filter p xs) passes) c)) [
              | inl is ↦ ((0, omega arith, is), subst (λ (y : ℕ). p y ≡ true) is passes)
              | inr more ↦ let k = kept xs m more in (later x m xs k.0, k.1)
            ]
        | inr fails ↦
            let k = kept xs m (subst (λ (ys : List ℕ). Contains ys m) (cond-false (p x) (x ∷ filter p xs) (filter p xs) fails) c) in
            (later x m xs k.0, k.1)
      ]

  of_all : (P : ℕ → Type 0) (xs : List ℕ) → All P (filter p xs) → All (λ m. p m ≡ true → P m) xs
  of_all P [] all = λ k d inside. absurd (omega arith)
  of_all P (x ∷ xs) all =
      elim (cases_Bool (p x)) [
        | inl passes ↦
            let a = subst (All P) (cond-true (p x) (x ∷ filter p xs) (filter p xs) passes) all in
            All-cons (λ m. p m ≡ true → P m) x xs (λ t. a 0 x (omega arith)) (of_all P xs (All-tail P x (filter p xs) a))
        | inr fails ↦
            All-cons (λ m. p m ≡ true → P m) x xs (λ t. absurd (both_ways (p x) fails t)) (of_all P xs (subst (All P) (cond-false (p x) (x ∷ filter p xs) (filter p xs) fails) all))
      ]

  least_found : (xs ys : List ℕ) (n : ℕ) → filter p xs ≡ ys → least ys ≡ Some n → IsLeastOf p xs n
  least_found xs [] n e is = absurd cc
  least_found xs (y ∷ ys) n e is =
      let same : least_of y ys ≡ n = cc in
      let k = kept xs n (subst (λ (zs : List ℕ). Contains zs n) (sym e) (subst (Contains (y ∷ ys)) same (has_least y ys))) in
      record {
        has = k.0;
        passes = k.1;
        least = of_all (λ m. n ≤ m) xs (subst (All (λ m. n ≤ m)) (sym e) (subst (λ (b : ℕ). All (λ m. b ≤ m) (y ∷ ys)) same (least_is_least y ys)));
      }

  none_found : (xs ys : List ℕ) → filter p xs ≡ ys → least ys ≡ None → All (λ m. p m ≡ true → ⊥) xs
  none_found xs [] e is = of_all (λ m. ⊥) xs (subst (All (λ m. ⊥)) (sym e) (λ k d inside. absurd (omega arith)))
  none_found xs (y ∷ ys) e is = absurd cc

  pub none_passes : (xs : List ℕ) → least (filter p xs) ≡ None → (m : ℕ) → Contains xs m → p m ≡ true → ⊥
  none_passes xs e m has passes = none_found xs (filter p xs) refl e has.0 m has.1 (subst (λ (y : ℕ). p y ≡ true) (sym has.2) passes)

  pub least_is : (xs : List ℕ) (n : ℕ) → IsLeastOf p xs n → least (filter p xs) ≡ Some n
  least_is xs n l = go (least (filter p xs)) refl
    where
      go : (found : Option ℕ) → least (filter p xs) ≡ found → found ≡ Some n
      go None e = absurd (none_found xs (filter p xs) refl e l.has.0 n l.has.1 (subst (λ (m : ℕ). p m ≡ true) (sym l.has.2) l.passes))
      go (Some m) e =
          let f = least_found xs (filter p xs) m refl e in
          let low : m ≤ n = subst (λ (y : ℕ). m ≤ y) l.has.2 (f.least l.has.0 n l.has.1 (subst (λ (y : ℕ). p y ≡ true) (sym l.has.2) l.passes)) in
          let high : n ≤ m = subst (λ (y : ℕ). n ≤ y) f.has.2 (l.least f.has.0 m f.has.1 (subst (λ (y : ℕ). p y ≡ true) (sym f.has.2) f.passes)) in
          let same : m ≡ n = omega arith in
          ap (λ (y : ℕ). Some y) same

  pub least_none : (xs : List ℕ) → All (λ m. p m ≡ false) xs → least (filter p xs) ≡ None
  least_none xs all = go (least (filter p xs)) refl
    where
      go : (found : Option ℕ) → least (filter p xs) ≡ found → found ≡ None
      go None e = refl
      go (Some m) e =
          let f = least_found xs (filter p xs) m refl e in
          absurd (both_ways (p m) (subst (λ (y : ℕ). p y ≡ false) f.has.2 (all f.has.0 m f.has.1)) f.passes)

  -- The order does not matter.
  pub least_in_order : (xs ys : List ℕ) → IsPermutation xs ys → least (filter p ys) ≡ least (filter p xs)
  least_in_order xs ys order = go (least (filter p xs)) refl
    where
      go : (found : Option ℕ) → least (filter p xs) ≡ found → least (filter p ys) ≡ found
      go None e =
          let none = All-permutation (λ m. p m ≡ true → ⊥) xs ys order (none_found xs (filter p xs) refl e) in
          least_none ys (λ k d inside. search (rules, none k d inside))
      go (Some n) e =
          let f = least_found xs (filter p xs) n refl e in
          least_is ys n (record {
            has = Contains-permutation xs ys n order f.has;
            passes = f.passes;
            least = All-permutation (λ m. p m ≡ true → n ≤ m) xs ys order f.least;
          })
