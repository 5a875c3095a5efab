use Rattle.std.proofs.Common.{subst, sym}
use Rattle.hunk_wide.specs.declared.spot.Spot.{Spot}
use Rattle.hunk_wide.specs.Spellings.{EndsThere}
use Rattle.hunk_wide.proofs.Counted.{passing_ends}
use Rattle.hunk_wide.proofs.spelling.units_at.Goals as goal

pub returns-in-Passing-clause-none : goal.returns-in-Passing-clause-none
returns-in-Passing-clause-none c = subst (λ (s : Spot). EndsThere s c.args.rest.now) (sym c.in-Passing.is) (passing_ends c.args.rest.now)
