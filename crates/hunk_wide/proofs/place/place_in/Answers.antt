use Rattle.std.proofs.Common.{ℕ, ◌+◌, sym, subst, ap, ◌∙◌}
use Rattle.hunk_grammar.specs.declared.position.Position.TheVariants.{FirstLong}
use Rattle.hunk_wide.specs.declared.position.FilePosition.TheVariants.{Load}
use Rattle.hunk_wide.specs.declared.spot.Spot.TheVariants.{Long}
use Rattle.hunk_wide.specs.Places.{IsOfUnit}
use Rattle.hunk_wide.proofs.{Places.place_behind, Placing.{of_unit, stops_here}}
use Rattle.hunk_wide.proofs.place.place_in.Goals as goal

pub returns-then-owed-unit-clause-value : goal.returns-then-owed-unit-clause-value
returns-then-owed-unit-clause-value c =
    sym (stops_here _ c.units.at c.units.owed c.in-Some.unit.size c.in-Some.unit.given c.units.spot c.in-Some.unit.next c.units.rest.now c.units.invariant.same c.in-Some.ensures.some c.if-owed-unit.true
    ∙ ap (λ (k : ℕ). c.units.at + k) (sym c.place_in_unit.ensures.value))

pub returns-then-owed-unit-clause-behind : goal.returns-then-owed-unit-clause-behind
returns-then-owed-unit-clause-behind c past = returns-then-owed-unit-clause-value c ∙ place_behind c.args.bytes.now c.args.place past

pub returns-then-owed-unit-clause-unit : goal.returns-then-owed-unit-clause-unit
returns-then-owed-unit-clause-unit c =
    subst (λ (k : ℕ). IsOfUnit (Long (Load FirstLong)) c.args.bytes.now c.args.place k) (sym (returns-then-owed-unit-clause-value c))
    (of_unit (Long (Load FirstLong)) c.args.bytes.now c.args.place)

pub returns-clause-behind : goal.returns-clause-behind
returns-clause-behind c past = sym (c.units.invariant.same ∙ ap (λ (k : ℕ). c.units.at + k) (c.in_default.ensures.none ∙ sym c.min.ensures)) ∙ place_behind c.args.bytes.now c.args.place past

pub returns-clause-unit : goal.returns-clause-unit
returns-clause-unit c =
    subst (λ (k : ℕ). IsOfUnit (Long (Load FirstLong)) c.args.bytes.now c.args.place k) (c.units.invariant.same ∙ ap (λ (k : ℕ). c.units.at + k) (c.in_default.ensures.none ∙ sym c.min.ensures))
    (of_unit (Long (Load FirstLong)) c.args.bytes.now c.args.place)
