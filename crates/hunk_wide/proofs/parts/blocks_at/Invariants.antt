use Rattle.std.proofs.Common.{◌≤◌, ◌-◌, length, take}
use Rattle.hunk_wide.specs.Parts.{AsIs, load_at, word_at}
use Rattle.hunk_wide.proofs.parts.blocks_at.Given as goal

abbrev pub invariant-blocks-2 : goal.invariant-blocks-2
invariant-blocks-2 l = record {
  inside : l.at ≤ length l.bytes;
  as_is : AsIs (load_at (word_at l.fn.hunk l.fn.is_first)) (take l.at l.bytes) (load_at (word_at l.hunk l.is_first));
}

abbrev pub decreases-blocks-2 : goal.decreases-blocks-2
decreases-blocks-2 l = length l.bytes - l.at
