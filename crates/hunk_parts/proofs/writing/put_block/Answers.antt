use Rattle.std.proofs.Common.{[], ◌∷◌, ap, subst, ◌∙◌}
use Rattle.hunk_words.specs.Bits.{kind}
use Rattle.hunk_words.specs.Longs.{bytes_of}
use Rattle.hunk_words.specs.declared.block_word.Kind.{Kind}
use Rattle.hunk_parts.specs.RowsText.{part_seen, payload_text}
use Rattle.hunk_parts.proofs.LongBytes.{longs_more}
use Rattle.hunk_parts.proofs.writing.put_block.Goals as goal

pub returns : goal.returns
returns g c =
    let q = part_seen c.args.part.now in
    subst (λ (k : Kind). g.T.TakesBytes.takes c.args.taker.now (bytes_of (q.word ∷ payload_text k q)) c.put_payload.new.taker) (c.kind.ensures ∙ ap kind c.of.ensures)
    (longs_more g.T.TakesBytes.takes g.met.T.TakesBytes.more c.args.taker.now c.put_word.new.taker c.put_payload.new.taker (q.word ∷ []) _ c.put_word.ensures c.put_payload.ensures)
