use Rattle.std.proofs.Common.{refl, inr}
use Rattle.hunk_scatter.specs.Placing.{packed_from}
use Rattle.hunk_c.proofs.{Succeeding.what_fits}
use Rattle.hunk_c.proofs.load.hunk_load_packed.Goals as goal

pub returns-in-Err-clause-outcome : goal.returns-in-Err-clause-outcome
returns-in-Err-clause-outcome c = inr (c.in-Err.ensures.not_loaded (packed_from c.args.base), refl)

pub returns-in-Err-clause-succeeds : goal.returns-in-Err-clause-succeeds
returns-in-Err-clause-succeeds c = what_fits _ _ _ _ _ (returns-in-Err-clause-outcome c)

pub returns-then-size-clause-succeeds : goal.returns-then-size-clause-succeeds
returns-then-size-clause-succeeds c = what_fits _ _ _ _ _ c.load_few.ensures

pub returns-clause-succeeds : goal.returns-clause-succeeds
returns-clause-succeeds c = what_fits _ _ _ _ _ c.load_many.ensures
