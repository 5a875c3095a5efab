use Rattle.std.proofs.Common.{◌≡◌, length, min, subst, sym}
use Rattle.hunk_wide.specs.declared.spot.Spot.{Spot}
use Rattle.hunk_wide.specs.Places.{place_from}
use Rattle.hunk_wide.proofs.Placing.{passing_place}
use Rattle.hunk_wide.proofs.place.unit_at.Goals as goal

pub returns-in-Passing-clause-none : goal.returns-in-Passing-clause-none
returns-in-Passing-clause-none c =
    subst (λ (s : Spot). place_from s c.args.rest.now c.args.n ≡ min c.args.n (length c.args.rest.now)) (sym c.in-Passing.is) (passing_place c.args.rest.now c.args.n)
