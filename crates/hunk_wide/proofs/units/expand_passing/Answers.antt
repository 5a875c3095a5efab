use Rattle.std.proofs.Common.{arith}
use Rattle.hunk_wide.proofs.Stretches.{passing_copied}
use Rattle.hunk_wide.proofs.Leads.{passing_leads}
use Rattle.hunk_wide.proofs.units.expand_passing.Goals as goal

pub returns-clause-gives : goal.returns-clause-gives
returns-clause-gives c = passing_copied c.min-count.result c.args.piece.now c.copy_from_slice.new.self c.args.buf.now c.copy_from_slice.ensures.len (omega arith) c.copy_from_slice.ensures.after

pub returns-clause-leads : goal.returns-clause-leads
returns-clause-leads c = passing_leads _
