use Rattle.std.proofs.Common.{List, ap, sym, ◌∙◌}
use Rattle.hunk_blocks.specs.{BodyViews.viewed, Placed.Placed, Values.BlockValue}
use Rattle.hunk_blocks.specs.declared.body_view.BodyView.{BodyView}
use Rattle.hunk_lint.proofs.RoomLaws.{groups_counted}
use Rattle.hunk_lint.proofs.room.relocation_count.Goals as goal

pub counting-preserved-in-Reloc : goal.counting-preserved-in-Reloc
counting-preserved-in-Reloc c = record {
  fits = c.saturating_add-count.type_inv;
  left =
      groups_counted c.counting.count c.offset_count.result _ _ c.counting.blocks.value c.next.new.self.value c.in-Some.block.value c.in-Reloc.groups.value
      (ap (λ (p : Placed (List BlockValue)). p.value) c.in-Some.ensures.steps.0)
      (sym (ap (λ (v : BodyView). viewed v) c.in-Reloc.is) ∙ c.body.ensures.value)
      c.offset_count.ensures c.saturating_add-count.ensures c.counting.invariant.left;
}
