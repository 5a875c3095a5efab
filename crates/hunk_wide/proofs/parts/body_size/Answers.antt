use Rattle.std.proofs.Common.{◌≡◌, ℕ, ◌+◌, ◌*◌, ◌≤◌, IfSome, length, refl, sym, subst}
use Rattle.hunk_words.specs.Bits.{size_longs}
use Rattle.hunk_grammar.specs.declared.phase.Phase.{Phase}
use Rattle.hunk_grammar.specs.declared.phase.Phase.TheVariants as phases
use Rattle.hunk_wide.specs.Parts.{IsBody, front_word}
use Rattle.hunk_wide.proofs.Bodies.{bss_as_is, content_as_is, counted_as_is, counted_body, name_as_is}
use Rattle.hunk_wide.proofs.parts.body_size.Goals as goal

pub returns-in-ContentSize : goal.returns-in-ContentSize
returns-in-ContentSize c =
    subst (λ (phase : Phase). IfSome c.counted_size.result (λ size. IsBody phase c.args.bytes.now size)) (sym c.in-ContentSize.is)
    (counted_body phases.ContentSize c.args.bytes.now (size_longs (front_word c.args.bytes.now)) c.counted_size.result refl
    (subst (λ (w : ℕ). IfSome c.counted_size.result (λ size. (size ≡ 4 + 4 * size_longs w) × (size ≤ length c.args.bytes.now))) c.front_word.ensures c.counted_size.ensures)
    (λ whole f. content_as_is f c.args.bytes.now whole))

pub returns-in-BssSize : goal.returns-in-BssSize
returns-in-BssSize c =
    subst (λ (phase : Phase). IsBody phase c.args.bytes.now 4) (sym c.in-BssSize.is)
    (record { whole = c.requires; begins = refl; as_is = λ f. bss_as_is f c.args.bytes.now c.requires })

pub returns-in-NameCount : goal.returns-in-NameCount
returns-in-NameCount c =
    subst (λ (phase : Phase). IfSome c.counted_size-in-NameCount.result (λ size. IsBody phase c.args.bytes.now size)) (sym c.in-NameCount.is)
    (counted_body phases.NameCount c.args.bytes.now (front_word c.args.bytes.now) c.counted_size-in-NameCount.result refl
    (subst (λ (w : ℕ). IfSome c.counted_size-in-NameCount.result (λ size. (size ≡ 4 + 4 * w) × (size ≤ length c.args.bytes.now))) c.front_word-in-NameCount.ensures c.counted_size-in-NameCount.ensures)
    (λ whole f. name_as_is f c.args.bytes.now whole))

pub returns-in-LongCount : goal.returns-in-LongCount
returns-in-LongCount c =
    subst (λ (phase : Phase). IfSome c.counted_size-in-LongCount.result (λ size. IsBody phase c.args.bytes.now size)) (sym c.in-LongCount.is)
    (counted_body phases.LongCount c.args.bytes.now (front_word c.args.bytes.now) c.counted_size-in-LongCount.result refl
    (subst (λ (w : ℕ). IfSome c.counted_size-in-LongCount.result (λ size. (size ≡ 4 + 4 * w) × (size ≤ length c.args.bytes.now))) c.front_word-in-LongCount.ensures c.counted_size-in-LongCount.ensures)
    (λ whole f. counted_as_is f c.args.bytes.now whole))
