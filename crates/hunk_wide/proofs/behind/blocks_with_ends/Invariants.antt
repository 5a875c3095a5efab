use Rattle.std.proofs.Common.{◌≤◌, ◌-◌, false, length, take}
use Rattle.hunk_wide.specs.Parts.{WithEnds, load_at, word_at}
use Rattle.hunk_wide.proofs.behind.blocks_with_ends.Given as goal

abbrev pub invariant-blocks-2 : goal.invariant-blocks-2
invariant-blocks-2 l = record {
  inside : l.at ≤ length l.bytes;
  with_ends : WithEnds (load_at (word_at l.fn.hunk false)) (take l.at l.bytes) l.ends (load_at (word_at l.hunk l.is_first));
}

abbrev pub decreases-blocks-2 : goal.decreases-blocks-2
decreases-blocks-2 l = length l.bytes - l.at
