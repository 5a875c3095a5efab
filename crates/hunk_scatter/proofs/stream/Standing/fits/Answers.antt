use Rattle.std.proofs.Common.{◌≡◌, ℕ, false, ap, subst, arith}
use Rattle.hunk_grammar.specs.{Positions.is_done}
use Rattle.hunk_scatter.specs.{BodySteps.targets_at, Streaming.FitsStore}
use Rattle.hunk_scatter.proofs.StreamLaws.{fits_store}
use Rattle.hunk_scatter.proofs.stream.Standing.fits.Goals as goal

pub returns-then-hunk-hunks-clause-complete : goal.returns-then-hunk-hunks-clause-complete
returns-then-hunk-hunks-clause-complete c = λ store fed h size.
    let more : is_done c.args.self.now.state.position ≡ false = ap is_done c.in-Body.is in
    let fits = subst (λ (n : ℕ). FitsStore c.args.rows.now n c.args.self.now) size (fits_store c.args.rows.now store c.args.self.now fed h) in
    c.is_in_store.ensures.complete (fits.in_store more) more

pub returns-else-hunk-hunks-clause-complete : goal.returns-else-hunk-hunks-clause-complete
returns-else-hunk-hunks-clause-complete c = λ store fed h size.
    let more : is_done c.args.self.now.state.position ≡ false = ap is_done c.in-Body.is in
    let hunks = (fits_store c.args.rows.now store c.args.self.now fed h).hunks more in
    absurd (omega (arith, c.if-hunk-hunks.false, hunks, ap targets_at c.in-Body.is))
