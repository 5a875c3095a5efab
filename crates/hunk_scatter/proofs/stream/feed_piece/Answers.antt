use Rattle.std.proofs.Common.{refl}
use Rattle.hunk_scatter.proofs.stream.feed_piece.Goals as goal

pub returns-then-not-fits-clause-takes : goal.returns-then-not-fits-clause-takes
returns-then-not-fits-clause-takes c = λ fed h.
    let is = c.fits.ensures.complete c.args.store.now fed h refl in
    absurd (cc (is, c.if-not-fits.true))
