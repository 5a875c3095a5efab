-- What was copied to the front of a list.
use Rattle.std.proofs.Common.{◌≡◌, ◌≤◌, ◌++◌, ℕ, List, length, drop, arith, ap₂, sym, ◌∙◌}
use Rattle.std.proofs.lemmas.List.{take-append-drop}
use Rattle.hunk_parts.specs.Copying.{Copies}

pub copied : {A : Type 0} (old items new : List A) (n : ℕ) → Copies old 0 items new n → length items ≤ length old → new ≡ items ++ drop n old
copied {A} old items new n copies room =
    let follows = copies.1 (omega (arith, room)) in
    sym (take-append-drop n new) ∙ ap₂ (λ (xs ys : List A). xs ++ ys) follows.front follows.rest
