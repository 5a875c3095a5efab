use Rattle.std.proofs.Common.{ℕ, ◌+◌, ◌*◌, sym, ap, subst, ◌∙◌}
use Rattle.hunk_grammar.specs.declared.object_position.ObjectPosition.{ObjectPosition}
use Rattle.hunk_grammar.specs.declared.object_position.WordPlace.TheVariants.{BetweenHunks}
use Rattle.hunk_wide.specs.Parts.{IsUnitBody}
use Rattle.hunk_wide.proofs.UnitBlocks.{body_after, name_after}
use Rattle.hunk_wide.proofs.unit_blocks.unit_body.Goals as goal

pub returns-in_ok-size-in-UnitCount : goal.returns-in_ok-size-in-UnitCount
returns-in_ok-size-in-UnitCount c =
    subst (λ (p : ObjectPosition). IsUnitBody p c.args.bytes.now c.in_ok-size-in-UnitCount.size BetweenHunks) (sym c.in-UnitCount.is)
    (name_after c.args.bytes.now c.in_ok-size-in-UnitCount.size (c.in_ok-size-in-UnitCount.ensures.0 ∙ ap (λ (w : ℕ). 4 + 4 * w) c.front_word.ensures) c.in_ok-size-in-UnitCount.ensures.1)

pub returns-in_ok-size-in-Block : goal.returns-in_ok-size-in-Block
returns-in_ok-size-in-Block c =
    subst (λ (p : ObjectPosition). IsUnitBody p c.args.bytes.now c.in_ok-size-in-Block.size c.in-Block.after) (sym c.in-Block.is)
    (body_after c.in-Block.after c.in-Block.phase c.args.bytes.now c.in_ok-size-in-Block.size c.in_ok-size-in-Block.ensures)
