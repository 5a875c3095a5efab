use Rattle.std.proofs.Common.{ap, subst, sym, ◌∙◌}
use Rattle.hunk_files.specs.{Findings.findings, ObjectFile.{IsObjectFile, ObjectFileValue}}
use Rattle.hunk_files.proofs.views.UnitViewLaws.{units_of_is}
use Rattle.hunk_files.proofs.object.view.ObjectView.keep.Goals as goal

pub invariant_of-result : goal.invariant_of-result
invariant_of-result c =
    let file = c.self.invariant in
    let kept = c.in_ok-units.ensures.kept in (
      subst IsObjectFile (sym (kept ∙ units_of_is c.self.inside.bytes.now file)) file.is_object_file,
      ap (λ (us : ObjectFileValue). findings us) (kept ∙ c.self.view_is),
    )
