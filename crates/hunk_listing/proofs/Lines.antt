-- Texts that are built line by line.
use Rattle.std.proofs.Common.{◌≡◌, ℕ, List, ◌++◌, sym, ap, ◌∙◌, append_assoc}

-- With the first of the lines to come after it, a text goes on with those that follow.
pub shown_next : (lines first more now next all : List ℕ) → lines ≡ first ++ more → now ++ lines ≡ all → next ≡ now ++ first → next ++ more ≡ all
shown_next lines first more now next all cut h e = ap (λ (xs : List ℕ). xs ++ more) e ∙ append_assoc now first more ∙ ap (λ (xs : List ℕ). now ++ xs) (sym cut) ∙ h
