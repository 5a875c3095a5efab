use Rattle.std.proofs.Common.{◌≤◌, ◌-◌, length, take}
use Rattle.hunk_grammar.specs.declared.phase.Phase.TheVariants as phases
use Rattle.hunk_wide.specs.Parts.{AsIs, Frame, in_block}
use Rattle.hunk_wide.proofs.parts.groups_size.Given as goal

abbrev pub invariant-groups : goal.invariant-groups
invariant-groups l = record {
  inside : l.at ≤ length l.bytes;
  as_is : (f : Frame) → AsIs (in_block f phases.GroupCount) (take l.at l.bytes) (in_block f phases.GroupCount);
}

abbrev pub decreases-groups : goal.decreases-groups
decreases-groups l = length l.bytes - l.at
