-- What stands near an offset, by how many of the rising offsets are below.
use Rattle.std.proofs.Common.{◌≡◌, ℕ, zero, suc, ◌+◌, ◌≤◌, ◌<◌, Bool, true, false, cond, List, [], ◌∷◌, length, get_or, arith, ◌==◌, ◌-◌, sym, ap, ◌∙◌, ltb, Option, Some, None, IfSome, IfNone, ◌⊎◌, inl, inr}
use Rattle.std.specs.List.{All, AllWithin, count_by, filter}
use Rattle.std.specs.List.Sorted.{IsNonDecreasing, IsPartitionPoint}
use Rattle.std.proofs.lemmas.{Bool.{both_ways, cases_lt, cond-true, cond-false, eq-eqb, le-ltb, lt-ltb, ne_eqb}, Bool.Decides.nat_tests, List.{get_or_default, Sums.sum_by-cons}}
use Rattle.hunk_lint.specs.Suspicious.{is_close, least}
use Rattle.hunk_lint.proofs.Least.{IsLeastOf, least_is, least_none}

module _ (p : ℕ → Bool) where
  one_more : (x : ℕ) (xs : List ℕ) (t : Bool) → p x ≡ t → count_by p (x ∷ xs) ≡ cond t 1 0 + count_by p xs
  one_more x xs t is = rw (← is) (sum_by-cons (λ (y : ℕ). cond (p y) 1 0) x xs)

  -- Those that pass stand side by side.
  count_between : (xs : List ℕ) (a c : ℕ) → a ≤ c → c ≤ length xs → AllWithin (λ y. p y ≡ false) xs 0 a → AllWithin (λ y. p y ≡ true) xs a c → AllWithin (λ y. p y ≡ false) xs c (length xs) → count_by p xs + a ≡ c
  count_between [] a c le most front mid back = omega arith
  count_between (x ∷ xs) zero zero le most front mid back =
      let rest = count_between xs 0 0 le (omega arith) (λ k d l h. absurd (omega arith)) (λ k d l h. absurd (omega arith)) (λ k d l h. back (suc k) d (omega arith) (omega arith)) in
      omega (arith, rest, one_more x xs false (back 0 0 (omega arith) (omega arith)))
  count_between (x ∷ xs) zero (suc c) le most front mid back =
      let rest = count_between xs 0 c (omega arith) (omega arith) (λ k d l h. absurd (omega arith)) (λ k d l h. mid (suc k) d (omega arith) (omega arith)) (λ k d l h. back (suc k) d (omega arith) (omega arith)) in
      omega (arith, rest, one_more x xs true (mid 0 0 (omega arith) (omega arith)))
  count_between (x ∷ xs) (suc a) zero le most front mid back = absurd (omega arith)
  count_between (x ∷ xs) (suc a) (suc c) le most front mid back =
      let rest = count_between xs a c (omega arith) (omega arith) (λ k d l h. front (suc k) d (omega arith) (omega arith)) (λ k d l h. mid (suc k) d (omega arith) (omega arith)) (λ k d l h. back (suc k) d (omega arith) (omega arith)) in
      omega (arith, rest, one_more x xs false (front 0 0 (omega arith) (omega arith)))

-- ---- what is close

module _ (o y : ℕ) where
  pub close_above : o < y → y < o + 4 → is_close o y ≡ true
  close_above h k = grind (arith, nat_tests)

  close_below : y < o → o < y + 4 → is_close o y ≡ true
  close_below h k = grind (arith, nat_tests)

  far_above : o + 4 ≤ y → is_close o y ≡ false
  far_above h = grind (arith, nat_tests)

  far_below : y + 4 ≤ o → is_close o y ≡ false
  far_below h = grind (arith, nat_tests)

  same_is_not_close : y ≡ o → is_close o y ≡ false
  same_is_not_close h = grind (arith, nat_tests)

-- ---- among rising offsets

-- Of these as many are below o - 3, o and o + 1.
pub record Below (xs : List ℕ) (o first here after : ℕ) : Type 0 where
  pub up : IsNonDecreasing xs
  pub below_first : IsPartitionPoint (λ y. y < o - 3) (λ y. o - 3 ≤ y) xs first
  pub below_here : IsPartitionPoint (λ y. y < o) (λ y. o ≤ y) xs here
  pub below_after : IsPartitionPoint (λ y. y < o + 1) (λ y. o + 1 ≤ y) xs after
  pub inside : here ≤ length xs
  pub most : after ≤ length xs

module _ (xs : List ℕ) (o first here after : ℕ) (b : Below xs o first here after) where
  in_order : here ≤ after
  in_order = elim (cases_lt after here) [
    | inr le ↦ le
    | inl less ↦ absurd (omega (arith, b.below_here.0 after 0 (omega arith) less, b.below_after.1 after 0 (omega arith) (omega (arith, b.inside))))
  ]

  pub is_twice : ltb (here + 1) after ≡ ltb 1 (count_by (λ y. y == o) xs)
  is_twice =
      let count = count_between (λ y. y == o) xs here after in_order b.most
      (λ k d l h. ne_eqb _ _ (λ e. omega (arith, b.below_here.0 k d l h)))
      (λ k d l h. eq-eqb _ _ (omega (arith, b.below_here.1 k d l (omega (arith, b.most)), b.below_after.0 k d (omega arith) h)))
      (λ k d l h. ne_eqb _ _ (λ e. omega (arith, b.below_after.1 k d l h))) in
      more _ count
    where
      more : (n : ℕ) → n + here ≡ after → ltb (here + 1) after ≡ ltb 1 n
      more n e = grind (arith, nat_tests)

  -- what is below the first one that is near
  early : (k d : ℕ) → k < first → is_close o (get_or xs k d) ≡ false
  early k d h = far_below o (get_or xs k d) (omega (arith, b.below_first.0 k d (omega arith) h))

  -- what is the same
  between : (k d : ℕ) → here ≤ k → k < after → is_close o (get_or xs k d) ≡ false
  between k d l h = same_is_not_close o (get_or xs k d) (omega (arith, b.below_here.1 k d l (omega (arith, b.most)), b.below_after.0 k d (omega arith) h))

  module _ (at : ℕ) (at_is : at ≡ cond (ltb first here) first after) where
    -- Where an element stands at this place and is close, none that is less is close.
    found : (n : ℕ) → at < length xs → get_or xs at 0 ≡ n → n < o + 4 → IsLeastOf (is_close o) xs n
    found n inside is less = record { has = (at, inside, value n); passes = (by_case (cases_lt first here)).0; least = (by_case (cases_lt first here)).1 }
      where
        value : (d : ℕ) → get_or xs at d ≡ n
        value d = get_or_default xs at d 0 inside ∙ is

        from_here : (k d : ℕ) → at ≤ k → k < length xs → n ≤ get_or xs k d
        from_here k d l h = omega (arith, value d, b.up at k d l h)

        by_case : (first < here) ⊎ (here ≤ first) → (is_close o n ≡ true) × All (λ m. is_close o m ≡ true → n ≤ m) xs
        by_case (inl before) =
            let same : at ≡ first = at_is ∙ cond-true (ltb first here) first after (lt-ltb first here before) in
            let low = b.below_first.1 first 0 (omega arith) (omega (arith, inside)) in
            let high = b.below_here.0 first 0 (omega arith) before in
            let there : get_or xs first 0 ≡ n = ap (λ (i : ℕ). get_or xs i 0) (sym same) ∙ is in (
              close_below o n (omega (arith, high, there)) (omega (arith, low, there)),
              λ k d h t. elim (cases_lt k first) [
                | inl sooner ↦ absurd (both_ways _ (early k d sooner) t)
                | inr later ↦ from_here k d (omega arith) h
              ],
            )
        by_case (inr none) =
            let same : at ≡ after = at_is ∙ cond-false (ltb first here) first after (le-ltb first here none) in
            let low = b.below_after.1 after 0 (omega arith) (omega (arith, inside)) in
            let there : get_or xs after 0 ≡ n = ap (λ (i : ℕ). get_or xs i 0) (sym same) ∙ is in (
              close_above o n (omega (arith, low, there)) less,
              λ k d h t. elim (cases_lt k here) [
                | inl sooner ↦ absurd (both_ways _ (early k d (omega arith)) t)
                | inr later ↦ elim (cases_lt k after) [
                  | inl equal ↦ absurd (both_ways _ (between k d later equal) t)
                  | inr beyond ↦ from_here k d (omega arith) h
                ]
              ],
            )

    nothing : (at < length xs → o + 4 ≤ get_or xs at 0) → All (λ m. is_close o m ≡ false) xs
    nothing far k d h = by_case (cases_lt first here)
      where
        by_case : (first < here) ⊎ (here ≤ first) → is_close o (get_or xs k d) ≡ false
        by_case (inl before) =
            let same : at ≡ first = at_is ∙ cond-true (ltb first here) first after (lt-ltb first here before) in
            let high = b.below_here.0 first 0 (omega arith) before in
            let there : get_or xs first 0 ≡ get_or xs at 0 = ap (λ (i : ℕ). get_or xs i 0) (sym same) in
            absurd (omega (arith, far (omega (arith, in_order, b.most)), high, there))
        by_case (inr none) =
            let same : at ≡ after = at_is ∙ cond-false (ltb first here) first after (le-ltb first here none) in
            elim (cases_lt k here) [
              | inl sooner ↦ early k d (omega arith)
              | inr later ↦ elim (cases_lt k after) [
                | inl equal ↦ between k d later equal
                | inr beyond ↦
                    let inside : at < length xs = omega arith in
                    far_above o (get_or xs k d) (omega (arith, far inside, get_or_default xs at d 0 inside, b.up at k d (omega arith) h))
              ]
            ]

    pub other_is : (other : Option ℕ) → IfSome other (λ n. (at < length xs) × (get_or xs at 0 ≡ n) × (n < o + 4)) → IfNone other (at < length xs → o + 4 ≤ get_or xs at 0) →
        other ≡ least (filter (is_close o) xs)
    other_is None some none = sym (least_none (is_close o) xs (nothing none))
    other_is (Some n) some none = sym (least_is (is_close o) xs n (found n some.0 some.1 some.2))
