-- How many items of a list that is read where it lies are given.
use Rattle.std.proofs.Common.{◌≡◌, ℕ, suc, List, [], ◌∷◌, length, Option, Some, None, sym, ap, ◌∙◌, arith}
use Rattle.std.specs.Iterator.{Drains}
use Rattle.hunk_blocks.specs.Placed.{Placed, GivesFirst}

-- Of items that are given one by one, as many are given as were left.
given_all : {S T A : Type 0} (gives : S → Option T → S → Type 0) (left : S → List A) → ((s t : S) → gives s None t → left s ≡ []) →
    ((s t : S) (x : T) → gives s (Some x) t → length (left s) ≡ suc (length (left t))) → (given : List T) (s : S) → Drains gives s given → length given ≡ length (left s)
given_all {S} gives left ends goes [] s drained = sym (ap (λ (t : S). length (left t)) drained.1.1 ∙ ap length (ends drained.1.0 drained.0 drained.1.2))
given_all gives left ends goes (x ∷ given) s drained =
    let first = drained.1.1 in
    omega (arith, goes s first.0 x first.1, given_all gives left ends goes given first.0 (drained.0, (drained.1.0, first.2, drained.1.2)))

-- the groups or entries of a list
pub items_given : {T A : Type 0} (view : T → A) (text : A → List ℕ) (given : List T) (items : Placed (List A)) → Drains (GivesFirst view text) items given → length given ≡ length items.value
items_given view text given items drained = given_all (GivesFirst view text) (λ s. s.value) (λ s t none. none.0) (λ s t x some. ap length some.0) given items drained
