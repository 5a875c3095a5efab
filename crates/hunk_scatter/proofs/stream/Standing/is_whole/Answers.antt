use Rattle.std.proofs.Common.{true, false, sym, ap}
use Rattle.hunk_grammar.specs.Positions.{is_done}
use Rattle.hunk_scatter.proofs.StreamLaws.{ends, open_unless_done}
use Rattle.hunk_scatter.proofs.stream.Standing.is_whole.Goals as goal

pub returns-in-Done : goal.returns-in-Done
returns-in-Done c = ends c.args.self.now true (sym (ap is_done c.in-Done.is))

pub returns-in_default : goal.returns-in_default
returns-in_default c = ends c.args.self.now false (sym (open_unless_done _ c.in_default.not-Done))
