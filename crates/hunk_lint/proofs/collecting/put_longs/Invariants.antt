use Rattle.std.proofs.Common.{◌≡◌, ◌+◌, ◌++◌, length, take}
use Rattle.hunk_lint.proofs.collecting.put_longs.Given as goal

abbrev pub invariant-putting : goal.invariant-putting
invariant-putting l = record {
  at_is : l.at + length l.long-iterator ≡ l.fn.start + length l.longs;
  put : take l.at l.room ++ l.long-iterator ≡ take l.fn.start l.fn.room ++ l.longs;
}
