use Rattle.std.proofs.Common.{◌≤◌, ◌-◌, length, take}
use Rattle.hunk_grammar.specs.declared.phase.Phase.TheVariants as phases
use Rattle.hunk_wide.specs.Parts.{AsIs, Frame, in_block}
use Rattle.hunk_wide.proofs.parts.symbols_size.Given as goal

abbrev pub invariant-symbols : goal.invariant-symbols
invariant-symbols l = record {
  inside : l.at ≤ length l.bytes;
  as_is : (f : Frame) → AsIs (in_block f phases.EntryWord) (take l.at l.bytes) (in_block f phases.EntryWord);
}

abbrev pub decreases-symbols : goal.decreases-symbols
decreases-symbols l = length l.bytes - l.at
