use Rattle.std.proofs.Common.{ℕ, [], ◌∷◌, ap, subst}
use Rattle.hunk_words.specs.Longs.{bytes_of}
use Rattle.hunk_parts.specs.PartFaults.{PartSize}
use Rattle.hunk_parts.specs.RowsText.{part_seen}
use Rattle.hunk_parts.proofs.LongBytes.{longs_more}
use Rattle.hunk_parts.proofs.writing.put_group.Goals as goal

pub returns : goal.returns
returns g c =
    let q = part_seen c.args.part.now in
    let takes = g.T.TakesBytes.takes in
    subst (λ (n : ℕ). takes c.args.taker.now (bytes_of (n ∷ q.word ∷ q.offsets)) c.put_whole.new.taker) (ap (λ (s : PartSize). s.offsets) c.size.ensures.value)
    (longs_more takes g.met.T.TakesBytes.more c.args.taker.now c.put_word.new.taker c.put_whole.new.taker (c.size.result.offsets ∷ q.word ∷ []) _
    (longs_more takes g.met.T.TakesBytes.more c.args.taker.now c.put_count.new.taker c.put_word.new.taker (c.size.result.offsets ∷ []) _ c.put_count.ensures c.put_word.ensures) c.put_whole.ensures)
