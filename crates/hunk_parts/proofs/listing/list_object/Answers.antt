use Rattle.std.proofs.Common.{List, [], ◌∷◌, ap, ◌∙◌, refl}
use Rattle.hunk_blocks.specs.Placed.{Placed}
use Rattle.hunk_files.specs.Items.{ItemValue}
use Rattle.hunk_parts.specs.declared.part_row.PartRow.{PartRow}
use Rattle.hunk_parts.proofs.ItemsLeft.{item_taken, rows_left, units_left}
use Rattle.hunk_parts.proofs.listing.list_object.Goals as goal

pub listing-init : goal.listing-init
listing-init g c = (
  [],
  g.met.T.Takes.none c.args.taker.now,
  ap (λ (p : Placed (List ItemValue)). rows_left [] p.place p.value) (c.into_iter-item-iterator.ensures.into_iter_gives ∙ c.items-item-items.ensures.value) ∙ units_left 0 0 c.args.file.now,
)

pub listing-preserved-in-Unit : goal.listing-preserved-in-Unit
listing-preserved-in-Unit g c =
    item_taken g.T.Takes.takes g.met.T.Takes.more _ _ _ [] c.listing.item-iterator c.next.new.self _ _ _ _ c.in-Unit.is c.in-Some.ensures.steps
    (ap (λ (r : PartRow). r ∷ []) c.unit_row.ensures) c.listing.invariant c.take.ensures

pub listing-preserved : goal.listing-preserved
listing-preserved g c =
    item_taken g.T.Takes.takes g.met.T.Takes.more _ _ _ [] c.listing.item-iterator c.next.new.self _ _ _ _ c.in-Block.is c.in-Some.ensures.steps
    refl c.listing.invariant c.list_block.ensures
