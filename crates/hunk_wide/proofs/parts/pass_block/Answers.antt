use Rattle.std.proofs.Common.{ℕ, Bool, sym, ap, ◌∙◌, arith}
use Rattle.hunk_words.specs.Bits.{kind}
use Rattle.hunk_grammar.specs.PhaseSteps.{begin}
use Rattle.hunk_wide.specs.declared.position.FilePosition.TheVariants as files
use Rattle.hunk_wide.specs.Longwords.{given}
use Rattle.hunk_wide.proofs.AsIs.{block_as_is, end_as_is}
use Rattle.hunk_wide.proofs.parts.pass_block.Goals as goal

pub returns-in_default-begun_by-clause-some : goal.returns-in_default-begun_by-clause-some
returns-in_default-begun_by-clause-some c =
    end_as_is c.args.hunk.now c.pass_end.new.hunk c.args.bytes.now c.in_ok-size.size (omega arith)
    ((λ j. given (files.Load (sym c.word_at.ensures j)) (sym c.front_word-word.ensures j)) ∙ sym c.of.ensures ∙ c.in-Same.is)
    (sym (ap (λ (w : ℕ). begin (kind w)) c.front_word-word.ensures) ∙ sym c.begun_by.ensures ∙ c.in_default-begun_by.is)
    c.in_ok-size.ensures.some.0 c.in_ok-size.ensures.some.1

pub returns-clause-some : goal.returns-clause-some
returns-clause-some c =
    block_as_is c.args.hunk.now _ c.in-Some.phase c.args.bytes.now c.in_ok-size-2.size (omega arith)
    ((λ j. given (files.Load (sym c.word_at.ensures j)) (sym c.front_word-word.ensures j)) ∙ sym c.of.ensures ∙ c.in-Same.is)
    (sym (ap (λ (w : ℕ). begin (kind w)) c.front_word-word.ensures) ∙ sym c.begun_by.ensures ∙ c.in-Some.is)
    c.in_ok-size-2.ensures
    (ap (λ (b : Bool). record { hunks = c.args.hunk.now.hunks; ahead = c.args.hunk.now.ahead; has_content = b }) c.has_content_after-hunk.ensures)
