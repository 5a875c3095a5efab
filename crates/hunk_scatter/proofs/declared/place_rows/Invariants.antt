use Rattle.hunk_scatter.specs.{Placing.ArePlacedTo, Rows.entries_of}
use Rattle.hunk_scatter.proofs.declared.place_rows.Given as goal

abbrev pub invariant-loop-hunk : goal.invariant-loop-hunk
invariant-loop-hunk g l = ArePlacedTo (g.P.Placer.base l.placer) (entries_of l.fn.rows) l.fn.rows l.rows l.hunk l.before
