use Rattle.std.proofs.Common.{sym, ap, subst, ◌∙◌}
use Rattle.hunk_files.specs.ObjectFile.{UnitValue, IsUnit}
use Rattle.hunk_blocks.specs.Placed.{Placed}
use Rattle.hunk_files.proofs.views.ObjectViewLaws.{unit_at_is}
use Rattle.hunk_files.proofs.object.unit_view.UnitView.name.Goals as goal

pub returns-clause-value : goal.returns-clause-value
returns-clause-value c =
    let unit = c.self.invariant in
    (c.read_header-name.ensures unit).0 ∙ ap (λ (u : UnitValue). u.name) (sym (ap (λ (p : Placed UnitValue). p.value) (sym c.self.view_is) ∙ unit_at_is c.self.inside.bytes.now c.self.inside.place unit))

pub returns-clause-unit : goal.returns-clause-unit
returns-clause-unit c =
    let unit = c.self.invariant in
    subst IsUnit (sym (ap (λ (p : Placed UnitValue). p.value) (sym c.self.view_is) ∙ unit_at_is c.self.inside.bytes.now c.self.inside.place unit)) unit.is
