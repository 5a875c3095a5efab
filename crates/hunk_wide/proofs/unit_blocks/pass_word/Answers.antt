use Rattle.std.proofs.Common.{ap, sym, ◌∙◌}
use Rattle.hunk_grammar.specs.declared.object_position.ObjectPosition.TheVariants.{Word}
use Rattle.hunk_grammar.specs.ObjectPositions.{step}
use Rattle.hunk_wide.specs.declared.position.FilePosition.TheVariants as files
use Rattle.hunk_wide.specs.Longwords.{given}
use Rattle.hunk_wide.proofs.UnitBlocks.{block_as_is}
use Rattle.hunk_wide.proofs.unit_blocks.pass_word.Goals as goal

pub returns-clause-some : goal.returns-clause-some
returns-clause-some c =
    block_as_is c.args.place.now c.in_ok-size.next c.step.result c.args.bytes.now c.in_ok-size.size c.requires.inside
    (sym (ap (given (files.Object (Word c.args.place.now))) c.requires.word) ∙ sym c.of.ensures ∙ c.in-Same.is)
    (sym (c.step.ensures ∙ ap (step (Word c.args.place.now)) c.requires.word)) c.in_ok-size.ensures
