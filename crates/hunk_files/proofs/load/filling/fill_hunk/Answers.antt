use Rattle.std.proofs.Common.{◌++◌, ◌∷◌, ◌∙◌, [], List, ap}
use Rattle.hunk_blocks.specs.{BodyViews.viewed, Parts.block_text, Placed.Placed, Values.BlockValue}
use Rattle.hunk_files.proofs.{image.FillingLaws.block_filled, views.PartsInTurn.part_taken}
use Rattle.hunk_files.proofs.load.filling.fill_hunk.Goals as goal

pub filling-preserved : goal.filling-preserved
filling-preserved g c =
    let t = c.filling.invariant.taken in
    record {
      stays = c.fill_block.ensures.stays ∙ c.filling.invariant.stays;
      left =
          block_filled c.filling.invariant.left c.in-Some.block.value c.next.new.self.value (ap (λ (p : Placed (List BlockValue)). p.value) c.in-Some.ensures.steps.0)
          (viewed c.into_body.result) c.fill_block.new.memory c.into_body.ensures.value (rw c.filling.invariant.stays at c.fill_block.ensures.memory);
      taken = (t.0 ++ c.in-Some.block.value ∷ [], part_taken block_text c.args.blocks.now c.filling.blocks c.next.new.self t.0 c.next.result c.in-Some.block t.1 c.in-Some.is c.next.ensures.steps);
    }
