use Rattle.std.proofs.Common.{arith}
use Rattle.hunk_parts.specs.RowsText.{part_seen}
use Rattle.hunk_parts.proofs.LongBytes.{longs_none}
use Rattle.hunk_parts.proofs.OtherParts.{other_text}
use Rattle.hunk_parts.proofs.writing.put_part.Goals as goal

pub returns-in_default : goal.returns-in_default
returns-in_default g c =
    longs_none g.T.TakesBytes.takes g.met.T.TakesBytes.more g.met.T.TakesBytes.none c.args.taker.now _
    (other_text (part_seen c.args.part.now) (omega arith) (omega arith) (omega arith) (omega arith) (omega arith))
