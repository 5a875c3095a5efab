use Rattle.std.proofs.Common.{[], ◌∷◌}
use Rattle.hunk_parts.proofs.LongBytes.{longs_more}
use Rattle.hunk_parts.proofs.writing.put_content.Goals as goal

pub returns : goal.returns
returns g c = longs_more g.T.TakesBytes.takes g.met.T.TakesBytes.more c.args.taker.now c.put_count.new.taker c.put_padded.new.taker (c.args.count ∷ []) _ c.put_count.ensures c.put_padded.ensures
