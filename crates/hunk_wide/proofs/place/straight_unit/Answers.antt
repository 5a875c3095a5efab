use Rattle.std.proofs.Common.{◌≡◌, ℕ, suc, ◌+◌, inl, inr, subst, arith}
use Rattle.hunk_wide.specs.declared.spot.Spot.TheVariants.{Long, Straight}
use Rattle.hunk_wide.specs.Places.{GoesBy}
use Rattle.hunk_wide.proofs.Placing.{straight_few, straight_in_front}
use Rattle.hunk_wide.proofs.place.straight_unit.Goals as goal
use Rattle.hunk_wide.proofs.place.straight_unit.Goals.{then-n-owed-via-then-n-owed, then-n-owed-via-else-n-owed+then-rest-owed}

pub returns-then-n-owed-clause-none : goal.returns-then-n-owed-clause-none
returns-then-n-owed-clause-none c = elim c.then-n-owed.branch [
  | then-n-owed-via-then-n-owed w ↦ straight_few c.args.owed c.args.next c.args.rest.now c.args.n (inl w.if-n-owed.true)
  | then-n-owed-via-else-n-owed+then-rest-owed w ↦ straight_few c.args.owed c.args.next c.args.rest.now c.args.n (inr w.if-rest-owed.true)
]

pub returns-clause-some : goal.returns-clause-some
returns-clause-some c =
    let one : suc c.args.owed ≡ c.args.owed + 1 = omega arith in
    subst (λ (k : ℕ). GoesBy (Straight c.args.owed c.args.next) c.args.rest.now c.args.n k k (Long c.args.next)) one
    (straight_in_front c.args.owed c.args.next c.args.rest.now c.args.n c.if-n-owed.false c.if-rest-owed.false)
