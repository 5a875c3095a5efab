use Rattle.std.proofs.Common.{ℕ, List, ap, sym, subst, ◌++◌, ◌∙◌}
use Rattle.std.specs.{List.flat_map, Prelude.slice_range}
use Rattle.hunk_words.specs.Longs.{bytes_of}
use Rattle.hunk_blocks.specs.Placed.{Placed}
use Rattle.hunk_files.specs.{Items.{ItemValue, ItemsStand, object_items, units_items}, ItemViews.kept_text, ObjectFile.ObjectFileValue}
use Rattle.hunk_files.proofs.{views.FileItems.units_kept, views.ItemStart.object_items_stand, strip.RangeLaws.range-none, views.UnitViewLaws.units_of_is}
use Rattle.hunk_files.proofs.object.view.ObjectView.strip_with.Goals as goal

pub strip_items-requires : goal.strip_items-requires
strip_items-requires g c =
    let bytes = c.self.inside.bytes.now in
    let same = sym (units_of_is bytes c.self.invariant) ∙ c.self.view_is in
    subst (ItemsStand bytes) (ap (λ (us : ObjectFileValue). object_items us) same ∙ sym c.items.ensures.value) (object_items_stand bytes c.self.invariant)

pub returns : goal.returns
returns g c =
    let bytes = c.self.inside.bytes.now in
    subst (λ (xs : List ℕ). g.T.TakesBytes.takes c.args.taker.now xs c.strip_items.new.taker)
    (ap (λ (p : Placed (List ItemValue)). slice_range bytes 0 p.place ++ bytes_of (flat_map kept_text p.value)) c.items.ensures.value
    ∙ ap (λ (xs : List ℕ). xs ++ bytes_of (flat_map kept_text (units_items 0 c.args.self.now))) (range-none bytes 0) ∙ ap bytes_of (units_kept c.args.self.now))
    c.strip_items.ensures
