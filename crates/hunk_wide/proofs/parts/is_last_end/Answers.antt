use Rattle.std.proofs.Common.{◌≡◌, ℕ, Bool, not, IsTrue, Option, None, Some, refl, sym, ap, ◌∙◌, arith}
use Rattle.std.specs.Option.{is_some}
use Rattle.hunk_words.specs.Bits.{kind}
use Rattle.hunk_grammar.specs.declared.phase.Phase.{Phase}
use Rattle.hunk_grammar.specs.PhaseSteps.{begin}
use Rattle.hunk_wide.specs.declared.position.FilePosition.TheVariants as files
use Rattle.hunk_wide.specs.Longwords.{given}
use Rattle.hunk_wide.proofs.AsIs.{file_end_as_is}
use Rattle.hunk_wide.proofs.parts.is_last_end.Goals as goal

none_there : (phase : Option Phase) (b : Bool) → is_some phase ≡ not b → IsTrue b → phase ≡ None
none_there None b e t = refl
none_there (Some phase) b e t = absurd cc

pub returns-in-Same : goal.returns-in-Same
returns-in-Same c = λ last.
    file_end_as_is c.args.hunk c.args.bytes.now (omega (arith, c.if-bytes-lt4.false))
    ((λ j. given (files.Load (sym c.word_at.ensures j)) (sym c.front_word-word.ensures j)) ∙ sym c.of.ensures ∙ c.in-Same.is)
    (sym (ap (λ (w : ℕ). begin (kind w)) c.front_word-word.ensures) ∙ sym c.begun_by.ensures ∙ none_there c.begun_by.result c.is_none.result c.is_none.ensures last)
    (omega (arith, c.if-hunk-gt0.false))
