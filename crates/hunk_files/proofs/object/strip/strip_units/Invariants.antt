use Rattle.std.proofs.Common.{◌≡◌}
use Rattle.hunk_files.specs.Strip.{strip_unit}
use Rattle.hunk_files.proofs.strip.StripSteps.{turned}
use Rattle.hunk_files.proofs.object.strip.strip_units.Given as goal

abbrev pub invariant-loop-unit : goal.invariant-loop-unit
invariant-loop-unit l = l.unit-items ≡ turned strip_unit l.unit-index l.fn.units.items
