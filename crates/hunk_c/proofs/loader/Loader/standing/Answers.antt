use Rattle.std.proofs.Common.{◌∙◌, Option, MatchOption, sym, subst}
use Rattle.hunk_grammar.specs.declared.position.Position.{Position}
use Rattle.hunk_c.specs.declared.loader.Loader.{Loader}
use Rattle.hunk_c.specs.Loaders.{IsNoLoader, MayHavePosition, MayHaveStood, TellsRefusal, TellsStrange, standing_in}
use Rattle.hunk_c.proofs.{MayStand.may_stand, Numbers.{may_stand_by, numbers_are, stands_again, stood_at}}
use Rattle.hunk_c.proofs.loader.Loader.standing.Goals as goal

no_loader : (l : Loader) → (MayHaveStood l → ⊥) → IsNoLoader l
no_loader l none = record {
  stands = λ rows memory fed h.
      none (stands_again l h.at h.numbers (may_stand rows memory h.at fed h.is_fed));
  has_refused = λ f h.
      let s = h.stood in
      none (stands_again l s.at (h.as_it_stood ∙ s.numbers) (may_stand h.rows h.memory s.at h.fed s.is_fed));
}

pub returns-in_default-clause-tells : goal.returns-in_default-clause-tells
returns-in_default-clause-tells c =
    let l = c.args.self.now in
    TellsStrange (no_loader l (λ h. subst (λ (o : Option Position). MatchOption o ⊥ (MayHavePosition l)) (sym c.in_default.ensures) h.position)) c.strange.ensures

pub returns-then-not-has_stood-clause-tells : goal.returns-then-not-has_stood-clause-tells
returns-then-not-has_stood-clause-tells c =
    TellsStrange (no_loader c.args.self.now (λ h. absurd (cc (c.has_stood.ensures.1 h, c.if-not-has_stood.true)))) c.strange-then-not-has_stood.ensures

pub returns-in-Some-fault-clause-tells : goal.returns-in-Some-fault-clause-tells
returns-in-Some-fault-clause-tells c =
    let l = c.args.self.now in
    let p = c.in-Some.position in
    let stood = c.has_stood.ensures.0 c.if-not-has_stood.false in
    let h = stood_at l p stood (sym c.in-Some.ensures) in
    TellsRefusal (standing_in l p) c.in-Some-fault.fault (record { numbers = numbers_are l p h.numbers; may_stand = may_stand_by l p h stood.counts; tells = c.in-Some-fault.ensures }) c.refused.ensures
