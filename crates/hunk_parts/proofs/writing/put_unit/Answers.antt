use Rattle.std.proofs.Common.{ℕ, [], ◌∷◌, ap, subst}
use Rattle.hunk_words.specs.Bits.{unit_word}
use Rattle.hunk_words.specs.Longs.{bytes_of}
use Rattle.hunk_parts.specs.PartFaults.{PartSize}
use Rattle.hunk_parts.specs.RowsText.{part_seen}
use Rattle.hunk_parts.proofs.LongBytes.{longs_more}
use Rattle.hunk_parts.proofs.writing.put_unit.Goals as goal

pub returns : goal.returns
returns g c =
    subst (λ (n : ℕ). g.T.TakesBytes.takes c.args.taker.now (bytes_of (unit_word ∷ n ∷ (part_seen c.args.part.now).content)) c.put_content.new.taker) (ap (λ (s : PartSize). s.content) c.size.ensures.value)
    (longs_more g.T.TakesBytes.takes g.met.T.TakesBytes.more c.args.taker.now c.put_word.new.taker c.put_content.new.taker (unit_word ∷ []) _ c.put_word.ensures c.put_content.ensures)
