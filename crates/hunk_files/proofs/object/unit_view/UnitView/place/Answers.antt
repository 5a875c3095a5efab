use Rattle.std.proofs.Common.{arith}
use Rattle.hunk_files.proofs.cuts.UnitReading.{header_inside}
use Rattle.hunk_files.proofs.object.unit_view.UnitView.place.Goals as goal

pub returns-clause-bound : goal.returns-clause-bound
returns-clause-bound c = omega (arith, header_inside c.self.inside.bytes.now c.self.inside.place c.self.invariant)
