-- Texts that are printed element by element.
use Rattle.std.proofs.Common.{◌≡◌, ℕ, ◌≤◌, List, ◌++◌, length, drop, sym, ap, ◌∙◌, append-nil}
use Rattle.std.specs.List.{flat_map}
use Rattle.std.proofs.lemmas.List.{drop_all}

-- the text so far, and the lines of the elements from this number on, are the text before and the lines of all elements
abbrev pub ShownUpTo : {A : Type 0} → (A → List ℕ) → List A → ℕ → List ℕ → List ℕ → Type 0
ShownUpTo lines xs i now old = now ++ flat_map lines (drop i xs) ≡ old ++ flat_map lines xs

pub shown_all : {A : Type 0} (lines : A → List ℕ) (xs : List A) (i : ℕ) (now old : List ℕ) →
    length xs ≤ i → ShownUpTo lines xs i now old → now ≡ old ++ flat_map lines xs
shown_all {A} lines xs i now old l h = sym (append-nil now) ∙ ap (λ (ys : List A). now ++ flat_map lines ys) (sym (drop_all i xs l)) ∙ h
