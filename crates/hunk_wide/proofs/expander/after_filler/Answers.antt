use Rattle.std.proofs.Common.{ℕ, List, ◌++◌, ap, ◌∙◌}
use Rattle.hunk_wide.specs.declared.spot.Spot.TheVariants.{Long, Passing}
use Rattle.hunk_wide.specs.Plain.{plain_from}
use Rattle.hunk_wide.proofs.Few.{filler_other, filler_zero}
use Rattle.hunk_wide.proofs.Leads.{filler_other_leads, filler_zero_leads}
use Rattle.hunk_wide.proofs.expander.after_filler.Goals as goal

pub returns-then-half-eq0-clause-left : goal.returns-then-half-eq0-clause-left
returns-then-half-eq0-clause-left c =
    λ more. ap (λ (r : List ℕ). r ++ plain_from (Long c.args.after) more) c.none.ensures
    ∙ filler_zero c.args.after c.args.begun c.args.byte more c.requires c.if-begun-eq0.false c.if-half-eq0.true

pub returns-clause-left : goal.returns-clause-left
returns-clause-left c =
    λ more. ap (λ (r : List ℕ). r ++ plain_from Passing more) c.six.ensures
    ∙ filler_other c.args.after c.args.begun c.args.byte more c.requires c.if-begun-eq0.false c.if-half-eq0.false

pub returns-then-half-eq0-clause-spot : goal.returns-then-half-eq0-clause-spot
returns-then-half-eq0-clause-spot c = λ more. filler_zero_leads c.args.after c.args.begun c.args.byte more c.requires c.if-begun-eq0.false c.if-half-eq0.true

pub returns-clause-spot : goal.returns-clause-spot
returns-clause-spot c = λ more. filler_other_leads c.args.after c.args.begun c.args.byte more c.requires c.if-begun-eq0.false c.if-half-eq0.false
