use Rattle.std.proofs.Common.{arith}
use Rattle.hunk_wide.proofs.Stretches.{straight_copied}
use Rattle.hunk_wide.proofs.Leads.{straight_front_leads}
use Rattle.hunk_wide.proofs.units.expand_straight.Goals as goal

pub returns-clause-gives : goal.returns-clause-gives
returns-clause-gives c =
    straight_copied c.args.owed c.min-count.result c.args.next c.behind_straight.result c.args.piece.now c.copy_from_slice.new.self c.args.buf.now
    c.copy_from_slice.ensures.len (omega arith) (omega arith) (omega arith) c.copy_from_slice.ensures.after c.behind_straight.ensures

pub returns-clause-leads : goal.returns-clause-leads
returns-clause-leads c = straight_front_leads c.args.owed c.min-count.result c.args.next c.behind_straight.result c.args.piece.now (omega arith) (omega arith) c.behind_straight.ensures
