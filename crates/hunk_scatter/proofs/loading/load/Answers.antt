use Rattle.std.proofs.Common.{◌+◌, Err, sym, subst}
use Rattle.std.specs.Prelude.{IsErrAnd}
use Rattle.hunk_words.specs.declared.fault.Fault.{Fault}
use Rattle.hunk_scatter.specs.HeaderFaults.{IsOverBudget}
use Rattle.hunk_scatter.specs.LoadOutcomes.{GivesAtMost}
use Rattle.hunk_scatter.specs.LoaderValues.{ImageValue}
use Rattle.hunk_scatter.proofs.loading.load.Goals as goal

pub returns-in-Err-clause-over_budget : goal.returns-in-Err-clause-over_budget
returns-in-Err-clause-over_budget g c at passes =
    subst (λ (f : Fault). IsErrAnd {T = ImageValue} (Err f) (IsOverBudget at)) (sym c.fault.ensures) (c.in-Err.ensures.over_budget at passes)

pub returns-in-Err-clause-no_further : goal.returns-in-Err-clause-no_further
returns-in-Err-clause-no_further g c all =
    subst (λ (f : Fault). GivesAtMost (g.R.Source.supply c.args.r.now) (g.R.Source.supply c.load_naming_part.new.r) (f.place + 4)) (sym c.fault.ensures) (c.in-Err.ensures.no_further all)
