use Rattle.std.proofs.Common.{◌≤◌, length, take}
use Rattle.hunk_grammar.specs.declared.position.Position.TheVariants as positions
use Rattle.hunk_wide.specs.Parts.{AsIs, load_at}
use Rattle.hunk_wide.proofs.parts.rows_at.Given as goal

abbrev pub invariant-rows : goal.invariant-rows
invariant-rows l = record {
  inside : l.at ≤ length l.bytes;
  as_is : AsIs (load_at (positions.SizeWord l.fn.hunks l.fn.owed)) (take l.at l.bytes) (load_at (positions.SizeWord l.fn.hunks l.left));
}

abbrev pub decreases-rows : goal.decreases-rows
decreases-rows l = l.left
