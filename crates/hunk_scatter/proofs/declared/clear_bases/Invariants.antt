use Rattle.std.proofs.Common.{◌≡◌, ◌++◌, map, take, drop}
use Rattle.hunk_scatter.specs.Rows.{entries_of, row_of}
use Rattle.hunk_scatter.proofs.declared.clear_bases.Given as goal

abbrev pub invariant-loop-row : goal.invariant-loop-row
invariant-loop-row l = l.row-items ≡ map row_of (entries_of (take l.row-index l.fn.rows)) ++ drop l.row-index l.fn.rows
