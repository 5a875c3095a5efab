use Rattle.std.proofs.Common.{◌≡◌, ◌<◌, ◌≤◌, ℕ, cond, ltb, subst, ◌∙◌, sym}
use Rattle.std.specs.List.Sorted.{IsPartitionPoint}
use Rattle.std.proofs.lemmas.Bool.{cond-true, cond-false, le-ltb, lt-ltb}
use Rattle.hunk_lint.proofs.Rising.{Below, is_twice, other_is}
use Rattle.hunk_lint.proofs.neighbours.neighbours_of.Goals as goal
use Rattle.hunk_lint.proofs.neighbours.neighbours_of.Goals.{then-first-here, else-first-here}

pub returns : goal.returns
returns c =
    let xs = c.args.rising.now in
    let first = c.below-first.result in
    let here = c.below-here.result in
    let after = c.below-after.result in
    let b : Below xs c.args.offset first here after = record {
      up = c.requires.rising;
      below_first = subst (λ (n : ℕ). IsPartitionPoint (λ y. y < n) (λ y. n ≤ y) xs first) c.saturating_sub.ensures c.below-first.ensures.point;
      below_here = c.below-here.ensures.point;
      below_after = c.below-after.ensures.point;
      inside = c.below-here.ensures.bound;
      most = c.below-after.ensures.bound;
    } in
    let at_is : c.if-first-here.at ≡ cond (ltb first here) first after = elim c.if-first-here.branch [
      | then-first-here w ↦ w.at-is ∙ sym (cond-true _ first after (lt-ltb first here w.if-first-here.true))
      | else-first-here w ↦ w.at-is ∙ sym (cond-false _ first after (le-ltb first here w.if-first-here.false))
    ] in
    let found = c.element_below-other.ensures in
    record { twice = is_twice _ _ _ _ _ b; other = other_is _ _ _ _ _ b _ at_is _ found.some found.none }
