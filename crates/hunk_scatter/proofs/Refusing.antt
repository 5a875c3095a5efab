-- The reasons for which a longword of a body, and one of a header, is refused.
use Rattle.std.proofs.Common.{rules, ◌≡◌, ℕ, Bool, true, List, Some, Option, subst}
use Rattle.std.specs.Prelude.{IfSome, IsTrue}
use Rattle.hunk_words.specs.declared.reason.Reason.{Reason}
use Rattle.hunk_grammar.specs.{Roles.refuse, declared.position.Position.Position, Positions.{role_at, is_after_header}}
use Rattle.hunk_scatter.specs.{declared.store.BodyState.BodyState, BodySteps.{longs_at, refusal, IsInStore}, LoaderReasons.is_of_body}

module _ (test : Reason → Bool) where
  abbrev AreOf : Option Reason → Type 0
  AreOf o = IfSome o (λ r. IsTrue (test r))

role_of_body : (longs : ℕ) (p : Position) (w : ℕ) → is_after_header p ≡ true → AreOf is_of_body (refuse (role_at longs p) w)
role_of_body longs p w b = search rules

pub refused_in_body : (sizes : List ℕ) (total : ℕ) (s : BodyState) (w : ℕ) (r : Reason) → IsInStore sizes total s → refusal sizes s w ≡ Some r → IsTrue (is_of_body r)
refused_in_body sizes total s w r i e = subst (AreOf is_of_body) e (role_of_body (longs_at sizes s.hunk) s.position w i.in_body)
