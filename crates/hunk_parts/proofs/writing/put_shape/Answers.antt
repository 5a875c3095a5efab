use Rattle.std.proofs.Common.{[], ◌∷◌, sym, subst, Some}
use Rattle.hunk_words.specs.Longs.{bytes_of}
use Rattle.hunk_grammar.specs.declared.ext_shape.ExtShape.{ExtShape}
use Rattle.hunk_parts.specs.RowsText.{part_seen, shape_text}
use Rattle.hunk_parts.proofs.LongBytes.{longs_more}
use Rattle.hunk_parts.proofs.writing.put_shape.Goals as goal

pub returns-in-Common : goal.returns-in-Common
returns-in-Common g c =
    let q = part_seen c.args.part.now in
    subst (λ (s : ExtShape). g.T.TakesBytes.takes c.args.taker.now (bytes_of (shape_text (Some s) q)) c.put_offsets-in-Common.new.taker) (sym c.in-Common.is)
    (longs_more g.T.TakesBytes.takes g.met.T.TakesBytes.more c.args.taker.now c.put_word-in-Common.new.taker c.put_offsets-in-Common.new.taker (q.value ∷ []) _ c.put_word-in-Common.ensures
    c.put_offsets-in-Common.ensures)
