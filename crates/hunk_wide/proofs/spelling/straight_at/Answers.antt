use Rattle.std.proofs.Common.{◌≡◌, ℕ, suc, ◌+◌, subst, arith}
use Rattle.hunk_wide.specs.declared.spot.Spot.TheVariants.{Long, Straight}
use Rattle.hunk_wide.specs.Spellings.{BeginsWith}
use Rattle.hunk_wide.proofs.Counted.{straight_begins, straight_ends}
use Rattle.hunk_wide.proofs.spelling.straight_at.Goals as goal

pub returns-then-rest-owed-clause-none : goal.returns-then-rest-owed-clause-none
returns-then-rest-owed-clause-none c = straight_ends c.args.owed c.args.next c.args.rest.now c.if-rest-owed.true

pub returns-clause-some : goal.returns-clause-some
returns-clause-some c =
    let one : suc c.args.owed ≡ c.args.owed + 1 = omega arith in
    subst (λ (k : ℕ). BeginsWith (Straight c.args.owed c.args.next) c.args.rest.now k k 0 0 (Long c.args.next)) one
    (straight_begins c.args.owed c.args.next c.args.rest.now c.if-rest-owed.false)
