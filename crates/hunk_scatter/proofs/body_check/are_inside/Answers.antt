use Rattle.std.proofs.Common.{◌≡◌, ◌≤◌, ◌+◌, ◌*◌, ℕ, length, take, slice_index, subst, sym, ◌∙◌, arith}
use Rattle.std.proofs.lemmas.Bool.{ltb-false}
use Rattle.std.specs.List.{AllByRecursion}
use Rattle.hunk_words.specs.Longs.{longs}
use Rattle.hunk_words.proofs.LongLaws.{word_of_bytes}
use Rattle.hunk_grammar.specs.Positions.{EndsWithin}
use Rattle.hunk_scatter.proofs.Offsets.{inside_more}
use Rattle.hunk_scatter.proofs.body_check.are_inside.Goals as goal

pub offsets-preserved : goal.offsets-preserved
offsets-preserved c limit fits =
    let bytes = c.args.offsets.now in
    let whole : 4 * c.offsets.i + 4 ≤ length bytes = omega (arith, c.requires, c.offsets-test.true) in
    let here : c.from_be_bytes-long.result ≡ slice_index (longs bytes) c.offsets.i = c.from_be_bytes-long.ensures ∙ word_of_bytes bytes c.offsets.i whole in
    let before : c.offsets.largest ≤ c.max-largest.result = grind (arith, c.max-largest.ensures) in
    let last : c.from_be_bytes-long.result ≤ c.max-largest.result = grind (arith, c.max-largest.ensures) in
    inside_more bytes c.offsets.i whole limit (c.offsets.invariant limit (omega (arith, fits, before))) (omega (arith, fits, last, here))

pub returns : goal.returns
returns c = λ _.
    let all : c.offsets.i ≡ c.args.count = omega (arith, c.offsets-test.false, c.offsets.auto.i-end) in
    subst (λ (n : ℕ). AllByRecursion (EndsWithin (4 * c.args.declared)) (take n (longs c.args.offsets.now))) all
    (c.offsets.invariant (4 * c.args.declared) (ltb-false (4 * c.args.declared) (c.offsets.largest + 4) (sym c.is_outside.ensures ∙ c.if-is_outside.false)))
