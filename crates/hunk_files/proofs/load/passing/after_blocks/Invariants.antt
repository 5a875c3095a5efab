use Rattle.std.proofs.Common.{◌-◌, length}
use Rattle.hunk_words.specs.Longs.{longs}
use Rattle.hunk_files.specs.Passing.{AreBlocks}
use Rattle.hunk_files.proofs.load.passing.after_blocks.Given as goal

abbrev pub invariant-passing : goal.invariant-passing
invariant-passing l = AreBlocks (longs l.bytes) l.fn.from l.place

abbrev pub decreases-passing : goal.decreases-passing
decreases-passing l = length (longs l.bytes) - l.place.at
