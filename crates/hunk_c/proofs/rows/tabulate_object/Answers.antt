use Rattle.std.proofs.Common.{refl}
use Rattle.hunk_c.specs.Rows.{HasNoFile}
use Rattle.hunk_c.proofs.rows.tabulate_object.Goals as goal

pub returns-in-Err-clause-outcome : goal.returns-in-Err-clause-outcome
returns-in-Err-clause-outcome g c = HasNoFile c.in-Err.refusal.fault (c.in-Err.ensures.refused, c.in-Err.ensures.none) refl c.refused.ensures
