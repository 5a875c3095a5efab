use Rattle.std.proofs.Common.{length}
use Rattle.hunk_files.proofs.strip.RangeLaws.{ItemsStripped, whole_text}
use Rattle.hunk_files.proofs.ranges.strip_items.Given as goal

abbrev pub invariant-stripping : goal.invariant-stripping
invariant-stripping g l = ItemsStripped g.T.TakesBytes.takes l.fn.taker l.taker l.bytes (whole_text l.bytes l.fn.items) l.from l.items

abbrev pub decreases-stripping : goal.decreases-stripping
decreases-stripping g l = length l.items.value
