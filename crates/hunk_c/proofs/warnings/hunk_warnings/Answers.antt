use Rattle.std.proofs.Common.{refl}
use Rattle.hunk_c.specs.Rows.{HasNoFile}
use Rattle.hunk_c.specs.Warnings.{ListsWarnings}
use Rattle.hunk_c.proofs.Warned.{warns_fitting}
use Rattle.hunk_c.proofs.warnings.hunk_warnings.Goals as goal

pub returns-in-Err-clause-outcome : goal.returns-in-Err-clause-outcome
returns-in-Err-clause-outcome c = ListsWarnings (HasNoFile c.in-Err.refusal.fault (c.in-Err.ensures.refused, c.in-Err.ensures.none) refl c.refused.ensures)

pub returns-in-Err-clause-succeeds : goal.returns-in-Err-clause-succeeds
returns-in-Err-clause-succeeds c = warns_fitting _ _ _ _ _ (returns-in-Err-clause-outcome c)

pub returns-in-Ok-clause-succeeds : goal.returns-in-Ok-clause-succeeds
returns-in-Ok-clause-succeeds c = warns_fitting _ _ _ _ _ c.write_warnings.ensures
