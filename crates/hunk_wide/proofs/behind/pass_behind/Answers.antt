use Rattle.std.proofs.Common.{sym, ◌∙◌}
use Rattle.hunk_wide.specs.declared.position.FilePosition.TheVariants as files
use Rattle.hunk_wide.specs.Longwords.{given}
use Rattle.hunk_wide.proofs.BehindEnds.{spelled_behind}
use Rattle.hunk_wide.proofs.behind.pass_behind.Goals as goal

pub returns-clause-some : goal.returns-clause-some
returns-clause-some c =
    spelled_behind c.args.hunk.now c.pass_end.new.hunk _ c.args.bytes.now _ _ c.in_ok-pass_end.ensures.some.1
    ((λ j. given (files.Load (sym c.word_at.ensures j)) (sym c.front_word.ensures j)) ∙ sym c.of.ensures ∙ c.in-BehindEnd.is)
    c.in_ok-block.ensures.some
