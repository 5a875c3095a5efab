use Rattle.hunk_c.proofs.LoadRows.{units_none}
use Rattle.hunk_c.proofs.units.hunk_units.Goals as goal

pub tabulate_object-requires-clause-none : goal.tabulate_object-requires-clause-none
tabulate_object-requires-clause-none c = λ v rest is. units_none v rest
