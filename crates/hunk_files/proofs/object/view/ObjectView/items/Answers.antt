use Rattle.std.proofs.Common.{ap, length, subst, sym, ◌∙◌, arith}
use Rattle.hunk_words.proofs.LongLaws.{length-bytes_of}
use Rattle.hunk_files.specs.{Items.object_items, ObjectFile.{IsObjectFile, ObjectFileValue, object_text}}
use Rattle.hunk_files.proofs.{views.ItemStart.{object_items_are, object_start}, views.UnitViewLaws.units_of_is}
use Rattle.hunk_files.proofs.object.view.ObjectView.items.Goals as goal

pub at-requires : goal.at-requires
at-requires c = object_start c.self.inside.bytes.now c.self.invariant

pub returns-clause-value : goal.returns-clause-value
returns-clause-value c =
    let bytes = c.self.inside.bytes.now in
    c.at.ensures ∙ object_items_are bytes c.self.invariant ∙ ap (λ (us : ObjectFileValue). object_items us) (sym (units_of_is bytes c.self.invariant) ∙ c.self.view_is)

pub returns-clause-size : goal.returns-clause-size
returns-clause-size c =
    omega (
      arith,
      ap length c.self.invariant.text_is,
      length-bytes_of (object_text c.self.invariant.value),
      ap (λ (us : ObjectFileValue). length (object_text us)) (sym c.self.view_is ∙ units_of_is c.self.inside.bytes.now c.self.invariant),
    )

pub returns-clause-file : goal.returns-clause-file
returns-clause-file c =
    subst IsObjectFile (sym (sym c.self.view_is ∙ units_of_is c.self.inside.bytes.now c.self.invariant)) c.self.invariant.is_object_file
