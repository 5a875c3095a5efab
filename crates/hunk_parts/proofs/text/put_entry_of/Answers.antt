use Rattle.hunk_parts.proofs.LongBytes.{longs_none}
use Rattle.hunk_parts.proofs.OtherParts.{no_part}
use Rattle.hunk_parts.proofs.text.put_entry_of.Goals as goal

pub returns-else-row-eq-HUNK_PART : goal.returns-else-row-eq-HUNK_PART
returns-else-row-eq-HUNK_PART g c = longs_none g.T.TakesBytes.takes g.met.T.TakesBytes.more g.met.T.TakesBytes.none c.args.taker.now _ (no_part c.args.row.now.what 1 _ c.if-row-eq-HUNK_PART.false)
