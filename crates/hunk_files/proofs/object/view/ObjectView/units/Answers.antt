use Rattle.std.proofs.Common.{List, ap, arith, ◌∙◌}
use Rattle.hunk_blocks.specs.Placed.{Placed}
use Rattle.hunk_files.specs.{Items.ItemValue, ItemViews.item_seen}
use Rattle.hunk_files.proofs.cuts.UnitCounts.{begins_unit, fewer_units, units_counted, units_left}
use Rattle.hunk_files.proofs.object.view.ObjectView.units.Goals as goal

pub counting-init : goal.counting-init
counting-init c =
    (tt, tt, omega (arith, ap (λ (p : Placed (List ItemValue)). units_left p.value) (c.into_iter-item-iterator.ensures.into_iter_gives ∙ c.items-item-items.ensures.value), units_counted 0 c.args.self.now))

pub overflow_add-units : goal.overflow_add-units
overflow_add-units c =
    omega (
      arith,
      c.counting.invariant.2,
      ap (λ (p : Placed (List ItemValue)). units_left p.value) c.in-Some.ensures.steps.0,
      ap (λ item. begins_unit (item_seen item).value) c.in-Unit.is,
      c.items-item-items.ensures.size,
      fewer_units c.args.self.now,
    )
