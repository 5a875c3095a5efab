use Rattle.std.proofs.Common.{ℕ, arith, ap₂, sym}
use Rattle.hunk_words.proofs.LongLaws.{length-longs}
use Rattle.hunk_parts.proofs.PointedBytes.{padded_count, part_size}
use Rattle.hunk_parts.proofs.seen_part.SeenPart.size.Goals as goal

pub returns-clause-value : goal.returns-clause-value
returns-clause-value c =
    let s = c.args.self.now in
    ap₂ (λ (m k : ℕ). part_size s.what s.word s.value m k) (omega (arith, c.div_ceil.ensures, padded_count s.content.now)) (sym (length-longs s.offsets.now))
