use Rattle.std.proofs.Common.{◌≤◌, ◌-◌, length, take}
use Rattle.hunk_grammar.specs.declared.object_position.ObjectPosition.TheVariants.{Word}
use Rattle.hunk_wide.specs.Parts.{AsIs, object_at}
use Rattle.hunk_wide.proofs.unit_blocks.unit_blocks_at.Given as goal

abbrev pub invariant-units : goal.invariant-units
invariant-units l = record {
  inside : l.at ≤ length l.bytes;
  as_is : AsIs (object_at (Word l.fn.place)) (take l.at l.bytes) (object_at (Word l.place));
}

abbrev pub decreases-units : goal.decreases-units
decreases-units l = length l.bytes - l.at
