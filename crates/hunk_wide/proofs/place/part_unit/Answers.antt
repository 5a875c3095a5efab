use Rattle.std.proofs.Common.{List, ℕ, take, refl, subst, arith}
use Rattle.std.proofs.lemmas.List.{length-take, take-take}
use Rattle.hunk_wide.specs.declared.spot.Spot.TheVariants.{Long}
use Rattle.hunk_wide.specs.Parts.{WithEnds}
use Rattle.hunk_wide.proofs.ManyEnds.{ends_go}
use Rattle.hunk_wide.proofs.place.part_unit.Goals as goal

pub returns : goal.returns
returns c =
    let part = c.part_at-part.result in
    let most : ℕ = c.min-most.result in
    let rest : List ℕ = c.args.rest.now in
    let few = c.part_at-part.ensures.with_ends.few in
    let inside = c.part_at-part.ensures.inside in
    ends_go (Long c.args.position) (Long part.next) rest c.args.n part.size _ part.ends (omega (arith, c.if-part-eq0.false)) (omega (arith, inside, length-take most rest)) refl
    (omega (arith, few, inside, length-take most rest, length-take part.size (take most rest), c.min-most.ensures))
    (subst (λ (x : List ℕ). WithEnds (Long c.args.position) x part.ends (Long part.next)) (take-take part.size most rest (omega (arith, inside, length-take most rest))) c.part_at-part.ensures.with_ends)
