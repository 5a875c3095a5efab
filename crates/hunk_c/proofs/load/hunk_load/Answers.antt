use Rattle.std.proofs.Common.{length, refl, arith, inr}
use Rattle.hunk_scatter.specs.Placing.{listed_in}
use Rattle.hunk_c.proofs.{Loaded.no_base_for, Packing.{listed_bases, listed_not}, Succeeding.what_fits}
use Rattle.hunk_c.proofs.load.hunk_load.Goals as goal

pub returns-in-Err-clause-outcome : goal.returns-in-Err-clause-outcome
returns-in-Err-clause-outcome c = inr (c.in-Err.ensures.not_loaded (listed_in c.args.bases.now), refl)

pub returns-in-Err-clause-succeeds : goal.returns-in-Err-clause-succeeds
returns-in-Err-clause-succeeds c = what_fits _ _ _ _ _ (returns-in-Err-clause-outcome c)

pub returns-then-bases-hunks-clause-outcome : goal.returns-then-bases-hunks-clause-outcome
returns-then-bases-hunks-clause-outcome c =
    let s = c.in-Ok.ensures.size in
    inr (no_base_for _ _ _ _ c.in-Ok.size s (length c.args.bases.now) c.in-Ok.ensures.fits (listed_not c.args.bases.now s.table (omega (arith, s.hunks_are, c.if-bases-hunks.true))) c.no_base.ensures, refl)

pub returns-then-bases-hunks-clause-succeeds : goal.returns-then-bases-hunks-clause-succeeds
returns-then-bases-hunks-clause-succeeds c = what_fits _ _ _ _ _ (returns-then-bases-hunks-clause-outcome c)

pub returns-clause-outcome : goal.returns-clause-outcome
returns-clause-outcome c =
    let s = c.in-Ok.ensures.size in
    c.load_at.ensures (listed_in c.args.bases.now) (listed_bases c.args.bytes.now c.args.bases.now c.in-Ok.size s c.if-bases-hunks.false)

pub returns-clause-succeeds : goal.returns-clause-succeeds
returns-clause-succeeds c = what_fits _ _ _ _ _ (returns-clause-outcome c)
