use Rattle.std.proofs.Common.{length, ◌-◌}
use Rattle.hunk_files.specs.{ObjectFile.unit_text, ObjectViews.{UnitsAt, units_at}}
use Rattle.hunk_files.proofs.views.PartsInTurn.{Taken}
use Rattle.hunk_files.proofs.object.keeping.keep_units.Given as goal

abbrev pub invariant-keeping : goal.invariant-keeping
invariant-keeping l = UnitsAt l.fn.bytes l.at × Taken unit_text (units_at l.fn.bytes 0) (units_at l.fn.bytes l.at) l.units.items

abbrev pub decreases-keeping : goal.decreases-keeping
decreases-keeping l = length l.fn.bytes - l.at
