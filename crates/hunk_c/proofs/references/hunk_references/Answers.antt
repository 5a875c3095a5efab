use Rattle.hunk_c.proofs.LoadRows.{references_none}
use Rattle.hunk_c.proofs.references.hunk_references.Goals as goal

pub tabulate_object-requires-clause-none : goal.tabulate_object-requires-clause-none
tabulate_object-requires-clause-none c = references_none
