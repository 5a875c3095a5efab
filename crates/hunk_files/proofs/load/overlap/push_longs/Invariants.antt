use Rattle.std.proofs.Common.{◌≡◌, ◌++◌}
use Rattle.hunk_files.proofs.load.overlap.push_longs.Given as goal

abbrev pub invariant-pushing : goal.invariant-pushing
invariant-pushing l = l.rising.items ++ l.long-iterator ≡ l.fn.rising.items ++ l.longs
