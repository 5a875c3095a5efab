use Rattle.hunk_c.proofs.LoadRows.{entries_none}
use Rattle.hunk_c.proofs.entries.hunk_entries.Goals as goal

pub tabulate_object-requires-clause-none : goal.tabulate_object-requires-clause-none
tabulate_object-requires-clause-none c = entries_none
