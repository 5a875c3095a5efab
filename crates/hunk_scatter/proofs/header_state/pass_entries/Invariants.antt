use Rattle.hunk_scatter.proofs.HeaderEntries.{EntriesPassed}
use Rattle.hunk_scatter.proofs.header_state.pass_entries.Given as goal

abbrev pub invariant-entries : goal.invariant-entries
invariant-entries l = EntriesPassed l.budget l.bytes l.from l.fn.state l.hunks l.at l.owed l.total

abbrev pub decreases-entries : goal.decreases-entries
decreases-entries l = l.owed
