use Rattle.std.proofs.Common.{ℕ}
use Rattle.hunk_c.specs.Packs.{ArePacked, IsRow}
use Rattle.hunk_c.proofs.packed.place_by_rows.Given as goal

abbrev pub invariant-rows : goal.invariant-rows
invariant-rows l = (start : ℕ) (p : ArePacked l.bytes l.hunks start l.marks) → IsRow p.header start l._row l.place.longword l.place.base
