use Rattle.std.proofs.Common.{◌≡◌, ◌<◌, ◌∙◌, ℕ, List, length, get_or, refl, ap, subst, sym, arith}
use Rattle.hunk_c.proofs.Packing.{has_base}
use Rattle.hunk_c.proofs.packed.PackedBasesBases.base.Goals as goal

-- the hunk has a base
few : (bases now : List ℕ) (hunk : ℕ) → bases ≡ now → hunk < length now → hunk < length bases
few bases now hunk e less = subst (λ (l : List ℕ). hunk < length l) (sym e) less

pub returns-then-self-number-clause-base : goal.returns-then-self-number-clause-base
returns-then-self-number-clause-base c =
    let less = has_base _ _ _ _ c.self.invariant.0 c.args.hunk (few _ _ _ c.self.view_is c.requires) in
    c.self.invariant.2 c.args.hunk less (sym c.if-self-number.true)
    ∙ ap (λ (bases : List ℕ). get_or bases c.args.hunk 0) c.self.view_is

pub base_of-requires-clause-inside : goal.base_of-requires-clause-inside
base_of-requires-clause-inside c = has_base _ _ _ _ c.self.invariant.0 c.args.hunk (few _ _ _ c.self.view_is c.requires)

pub put_near-requires-clause-inside : goal.put_near-requires-clause-inside
put_near-requires-clause-inside c = omega (arith, has_base _ _ _ _ c.self.invariant.0 c.args.hunk (few _ _ _ c.self.view_is c.requires))

pub returns-clause-base : goal.returns-clause-base
returns-clause-base c =
    let p = c.self.invariant.0 in
    let less = has_base _ _ _ _ p c.args.hunk (few _ _ _ c.self.view_is c.requires) in
    c.put_near.ensures c.self.inside.start p c.args.hunk less refl
    ∙ ap (λ (bases : List ℕ). get_or bases c.args.hunk 0) c.self.view_is
