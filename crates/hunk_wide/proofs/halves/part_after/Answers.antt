use Rattle.std.proofs.Common.{ℕ, ◌-◌, sym, ap, ◌∙◌, arith}
use Rattle.hunk_wide.specs.declared.spot.ShortPart.TheVariants.{Offset}
use Rattle.hunk_wide.proofs.ShortWords.{after_all, after_some}
use Rattle.hunk_wide.proofs.halves.part_after.Goals as goal

pub returns-then-count-words : goal.returns-then-count-words
returns-then-count-words c = sym (after_all c.args.part c.args.count (c.if-count-words.true ∙ c.words_to_count-words.ensures.value))

pub returns-else-count-words : goal.returns-else-count-words
returns-else-count-words c =
    ap (λ (n : ℕ). Offset (n - c.args.count - 1)) c.words_to_count-words.ensures.value
    ∙ sym (after_some c.args.part c.args.count (omega (arith, c.if-count-eq0.false)) (omega (arith, c.requires, c.if-count-words.false, c.words_to_count-words.ensures.value)))
