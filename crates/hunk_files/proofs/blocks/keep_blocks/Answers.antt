use Rattle.std.proofs.Common.{List, ap, sym, subst, ◌∙◌, inl, inr}
use Rattle.std.proofs.lemmas.Result.{err_from_is_err_and}
use Rattle.hunk_blocks.specs.{Parts.block_text, Placed.Placed, Values.BlockValue}
use Rattle.hunk_files.proofs.keeping.BlockPlaces.{block_lacks, item_lacks}
use Rattle.hunk_files.proofs.views.PartsInTurn.{Taken, part_taken}
use Rattle.hunk_files.proofs.blocks.keep_blocks.Goals as goal

pub returns-in_err-keep_block-clause-place : goal.returns-in_err-keep_block-clause-place
returns-in_err-keep_block-clause-place c =
    let p = err_from_is_err_and c.from_residual.result c.from_residual.ensures.1 in
    let place = c.in_err-keep_block.field-0.0.place in
    rw (p.1, p.2) (elim c.in_err-keep_block.ensures.place [
      | inl item ↦ item_lacks c.args.blocks.now c.keeping.blocks c.next.new.self c.keeping.kept.items c.next.result c.in-Some.view c.keeping.invariant c.in-Some.is c.next.ensures.steps place item
      | inr last ↦
          block_lacks c.args.blocks.now c.keeping.blocks c.next.new.self c.keeping.kept.items c.next.result c.in-Some.view c.keeping.invariant c.in-Some.is c.next.ensures.steps place
          (last ∙ ap (λ (p : Placed (List BlockValue)). p.place) c.blocks-in-keeping.view_is)
    ])

pub keeping-preserved : goal.keeping-preserved
keeping-preserved c =
    subst (Taken block_text c.args.blocks.now c.next.new.self) (sym c.in_ok-keep_block.ensures.appends)
    (part_taken block_text c.args.blocks.now c.keeping.blocks c.next.new.self c.keeping.kept.items c.next.result c.in-Some.view c.keeping.invariant c.in-Some.is c.next.ensures.steps)
