use Rattle.std.proofs.Common.{map}
use Rattle.hunk_parts.specs.RowsText.{header_of, row_part}
use Rattle.hunk_parts.proofs.LongBytes.{longs_more}
use Rattle.hunk_parts.proofs.RowTexts.{all_seen}
use Rattle.hunk_parts.proofs.text.put_rows.Goals as goal

pub put_body-requires : goal.put_body-requires
put_body-requires g c = all_seen c.args.bytes.now c.args.rows.now c.requires.spell

pub returns : goal.returns
returns g c =
    longs_more g.T.TakesBytes.takes g.met.T.TakesBytes.more c.args.taker.now c.put_head.new.taker c.put_body.new.taker (header_of (map (row_part c.args.bytes.now) c.args.rows.now)) _ (c.put_head.ensures c.args.bytes.now) c.put_body.ensures
