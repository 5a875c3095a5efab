use Rattle.std.proofs.Common.{arith}
use Rattle.std.proofs.lemmas.{List.length-map}
use Rattle.hunk_lint.specs.Warnings.{warnings}
use Rattle.hunk_c.specs.{Warnings.warning_row, declared.warnings.WarningRow.WarningRow}
use Rattle.hunk_c.proofs.warnings.most_warnings.Goals as goal

pub returns-in-Ok-clause-all : goal.returns-in-Ok-clause-all
returns-in-Ok-clause-all c =
    omega (arith, c.in-Ok.ensures.taken 0 (omega arith), length-map {B = WarningRow} (warnings c.args.file.now) warning_row, c.requires.few, c.ranges.size)

pub returns-in-Ok-clause-exact : goal.returns-in-Ok-clause-exact
returns-in-Ok-clause-exact c more =
    omega (arith, c.in-Ok.ensures.taken 0 (omega arith), length-map {B = WarningRow} (warnings c.args.file.now) warning_row, c.requires.few, c.ranges.size)
