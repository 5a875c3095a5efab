use Rattle.std.proofs.Common.{arith}
use Rattle.hunk_c.proofs.Tabulated.{exactly, few_findings}
use Rattle.hunk_c.proofs.check.hunk_check.Goals as goal

pub returns-clause-outcome : goal.returns-clause-outcome
returns-clause-outcome c = exactly _ _ _ _ _ (λ file is. few_findings _ file (omega arith) is) c.tabulate.ensures.outcome
