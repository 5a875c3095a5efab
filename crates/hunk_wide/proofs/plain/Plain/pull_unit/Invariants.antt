use Rattle.std.proofs.Common.{◌≡◌}
use Rattle.std.specs.Io.KnownBytes.{Keeps}
use Rattle.hunk_wide.specs.{Held.{owed, supply_of}, InFile.StaysInFile}
use Rattle.hunk_wide.proofs.plain.Plain.pull_unit.Given as goal

abbrev pub invariant-filling : goal.invariant-filling
invariant-filling g l = record {
  left : Keeps (supply_of l.initial.self.held (g.R.Source.supply l.initial.self.source)).left (supply_of l.self.held (g.R.Source.supply l.self.source)).left;
  failed : (g.R.Source.supply l.self.source).failed ≡ (g.R.Source.supply l.initial.self.source).failed;
  file : StaysInFile l.initial.self.held (g.R.Source.supply l.initial.self.source).left l.self.held (g.R.Source.supply l.self.source).left 0;
}

abbrev pub decreases-filling : goal.decreases-filling
decreases-filling g l = owed l.self.held
