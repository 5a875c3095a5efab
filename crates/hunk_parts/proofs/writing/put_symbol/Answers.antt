use Rattle.std.proofs.Common.{[], ◌∷◌}
use Rattle.hunk_parts.specs.RowsText.{named_text, part_seen}
use Rattle.hunk_parts.proofs.LongBytes.{longs_more}
use Rattle.hunk_parts.proofs.writing.put_symbol.Goals as goal

pub returns : goal.returns
returns g c =
    longs_more g.T.TakesBytes.takes g.met.T.TakesBytes.more c.args.taker.now c.put_name.new.taker c.put_word.new.taker (named_text (part_seen c.args.part.now)) (c.args.part.now.value ∷ []) c.put_name.ensures c.put_word.ensures
