use Rattle.hunk_parts.specs.RowsText.{named_text, part_seen}
use Rattle.hunk_parts.proofs.LongBytes.{longs_more}
use Rattle.hunk_parts.proofs.writing.put_entry.Goals as goal

pub returns : goal.returns
returns g c =
    longs_more g.T.TakesBytes.takes g.met.T.TakesBytes.more c.args.taker.now c.put_name.new.taker c.put_after_name.new.taker (named_text (part_seen c.args.part.now)) _ c.put_name.ensures c.put_after_name.ensures
