use Rattle.std.proofs.Common.{ℕ, [], ◌∷◌, ap, subst}
use Rattle.hunk_words.specs.Longs.{bytes_of, longs}
use Rattle.hunk_parts.specs.PartFaults.{PartSize}
use Rattle.hunk_parts.proofs.LongBytes.{longs_more}
use Rattle.hunk_parts.proofs.writing.put_offsets.Goals as goal

pub returns : goal.returns
returns g c =
    subst (λ (n : ℕ). g.T.TakesBytes.takes c.args.taker.now (bytes_of (n ∷ longs c.args.part.now.offsets.now)) c.put_whole.new.taker) (ap (λ (s : PartSize). s.offsets) c.size.ensures.value)
    (longs_more g.T.TakesBytes.takes g.met.T.TakesBytes.more c.args.taker.now c.put_count.new.taker c.put_whole.new.taker (c.size.result.offsets ∷ []) _ c.put_count.ensures c.put_whole.ensures)
