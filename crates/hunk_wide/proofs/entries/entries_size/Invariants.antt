use Rattle.std.proofs.Common.{◌≤◌, ◌-◌, length, take}
use Rattle.hunk_grammar.specs.declared.phase.Phase.TheVariants as phases
use Rattle.hunk_wide.specs.Parts.{AsIs, Frame, in_block}
use Rattle.hunk_wide.proofs.entries.entries_size.Given as goal

abbrev pub invariant-entries : goal.invariant-entries
invariant-entries l = record {
  inside : l.at ≤ length l.bytes;
  as_is : (f : Frame) → AsIs (in_block f phases.ExtWord) (take l.at l.bytes) (in_block f phases.ExtWord);
}

abbrev pub decreases-entries : goal.decreases-entries
decreases-entries l = length l.bytes - l.at
