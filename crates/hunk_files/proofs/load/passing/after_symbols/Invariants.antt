use Rattle.std.proofs.Common.{◌-◌}
use Rattle.hunk_words.specs.Longs.{longs}
use Rattle.hunk_files.specs.Passing.{AreSymbols}
use Rattle.hunk_files.proofs.load.passing.after_symbols.Given as goal

abbrev pub invariant-symbols : goal.invariant-symbols
invariant-symbols l = AreSymbols (longs l.bytes) l.from l.at

abbrev pub decreases-symbols : goal.decreases-symbols
decreases-symbols l = l.whole - l.at
