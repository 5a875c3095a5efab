use Rattle.std.proofs.Common.{◌≡◌, false, ap, arith}
use Rattle.std.proofs.lemmas.Bool.{eq-eqb}
use Rattle.hunk_grammar.specs.{Positions.is_done}
use Rattle.hunk_scatter.specs.BodySteps.{targets_at}
use Rattle.hunk_scatter.proofs.StreamLaws.{fits_store}
use Rattle.hunk_scatter.proofs.stream.Standing.fits_still.Goals as goal

pub returns-in-Body-clause-complete : goal.returns-in-Body-clause-complete
returns-in-Body-clause-complete c = λ store fed h size.
    let more : is_done c.args.self.now.state.position ≡ false = ap is_done c.in-Body.is in
    let hunks = (fits_store c.args.rows.now store c.args.self.now fed h).hunks more in
    eq-eqb _ _ (omega (arith, hunks, ap targets_at c.in-Body.is))
