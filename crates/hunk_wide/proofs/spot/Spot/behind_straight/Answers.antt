use Rattle.std.proofs.Common.{sym, arith}
use Rattle.hunk_wide.proofs.Straight.{behind_all, behind_some}
use Rattle.hunk_wide.proofs.spot.Spot.behind_straight.Goals as goal

pub returns-then-count-owed : goal.returns-then-count-owed
returns-then-count-owed c = sym (behind_some c.args.owed c.args.count c.args.next c.if-count-owed.true)

pub returns-else-count-owed : goal.returns-else-count-owed
returns-else-count-owed c = sym (behind_all c.args.owed c.args.count c.args.next (omega arith))
