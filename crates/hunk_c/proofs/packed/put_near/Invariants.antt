use Rattle.std.proofs.Common.{ℕ}
use Rattle.hunk_c.specs.Packs.{ArePacked}
use Rattle.hunk_c.proofs.Packing.{NearSoFar}
use Rattle.hunk_c.proofs.packed.put_near.Given as goal

abbrev pub invariant-rows : goal.invariant-rows
invariant-rows l = (start : ℕ) (p : ArePacked l.bytes l.hunks start l.marks) → NearSoFar p l.number l.near l.hunk l.place.longword l.place.base
