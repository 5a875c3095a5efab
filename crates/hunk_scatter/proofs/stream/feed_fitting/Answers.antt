use Rattle.std.proofs.Common.{refl}
use Rattle.hunk_scatter.proofs.stream.feed_fitting.Goals as goal

pub returns-then-not-fits_still-clause-takes : goal.returns-then-not-fits_still-clause-takes
returns-then-not-fits_still-clause-takes c = λ fed h.
    let is = c.fits_still.ensures.complete _ _ (c.in-Ok.ensures.takes fed h) refl in
    absurd (cc (is, c.if-not-fits_still.true))
