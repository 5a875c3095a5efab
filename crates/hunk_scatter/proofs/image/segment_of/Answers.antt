use Rattle.std.proofs.Common.{◌≡◌, ℕ, ◌+◌, ◌-◌, ◌*◌, ◌/◌, take, drop, Some, slice_index, sym, ap, ap₂, ◌∙◌, arith}
use Rattle.hunk_words.specs.Bits.{size_longs}
use Rattle.hunk_scatter.proofs.DeclaredBytes.{start_at, cut_at}
use Rattle.hunk_scatter.proofs.image.segment_of.Goals as goal

pub returns : goal.returns
returns c =
    let start = start_at c.args.rows.now c.args.starts.now c.args.i (c.args.i / 2048 * 2048) c.start_of-front.result c.requires.starts (omega (arith, c.requires.hunk, c.requires.few)) (omega arith) c.start_of-front.ensures in
    let size = c.bytes-bytes.ensures ∙ ap (λ (w : ℕ). 4 * size_longs w) c.size.ensures.word in
    let length_is : slice_index c.args.starts.now (c.args.i / 2048) + c.start_of-front.result + c.bytes-bytes.result - (slice_index c.args.starts.now (c.args.i / 2048) + c.start_of-front.result) ≡ c.bytes-bytes.result = omega arith in
    cut_at c.args.rows.now c.args.store.now c.args.i _ c.requires.hunk
    ∙ ap₂ (λ (n m : ℕ). Some (take n (drop m c.args.store.now))) (sym size ∙ sym length_is) (sym start)
