use Rattle.std.proofs.Common.{◌≡◌, ◌<◌, ◌+◌, ◌*◌, ◌∙◌, ℕ, List, [], arith, length, drop, ap, sym}
use Rattle.std.proofs.Math.ListN.{drop_of_length-le}
use Rattle.hunk_words.specs.Longs.{longs}
use Rattle.hunk_words.proofs.LongLaws.{length-longs}
use Rattle.hunk_parts.specs.PartFaults.{refuse_offsets}
use Rattle.hunk_parts.proofs.GroupOffsets.{one_inside}
use Rattle.hunk_parts.proofs.faults.refuse_offsets.Goals as goal

pub offsets-preserved : goal.offsets-preserved
offsets-preserved c =
    let xs = longs c.args.offsets.now in
    let i = c.offsets.i in
    let inside : i < length xs = omega (arith, c.offsets-test.true, length-longs c.args.offsets.now) in
    let next : (8 + 4 * i) + 4 ≡ 8 + 4 * (i + 1) = omega arith in
    ap (λ (k : ℕ). refuse_offsets c.args.declared k (drop (i + 1) xs)) (sym next)
    ∙ sym (one_inside c.args.declared (8 + 4 * i) xs i c.word_at.result inside c.word_at.ensures (sym c.is_outside.ensures ∙ c.if-is_outside.false))
    ∙ c.offsets.invariant

pub returns : goal.returns
returns c =
    let xs = longs c.args.offsets.now in
    let i = c.offsets.i in
    let all : drop i xs ≡ [] = drop_of_length-le xs (omega (arith, c.offsets-test.false, length-longs c.args.offsets.now)) in
    sym (ap (λ (ys : List ℕ). refuse_offsets c.args.declared (8 + 4 * i) ys) all) ∙ c.offsets.invariant
