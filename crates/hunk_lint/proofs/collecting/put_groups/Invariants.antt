use Rattle.std.proofs.Common.{◌≡◌, ◌+◌, ◌++◌, length, take}
use Rattle.hunk_lint.specs.Collecting.{groups_offsets}
use Rattle.hunk_lint.proofs.collecting.put_groups.Given as goal

abbrev pub invariant-putting : goal.invariant-putting
invariant-putting l = record {
  at_is : l.at + length (groups_offsets l.group-iterator.value) ≡ l.fn.start + length (groups_offsets l.fn.groups.value);
  put : take l.at l.room ++ groups_offsets l.group-iterator.value ≡ take l.fn.start l.fn.room ++ groups_offsets l.fn.groups.value;
}
