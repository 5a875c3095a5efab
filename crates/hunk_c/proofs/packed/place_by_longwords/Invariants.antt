use Rattle.std.proofs.Common.{ℕ, ◌+◌, ◌*◌, ◌/◌}
use Rattle.hunk_c.specs.Packs.{ArePacked, IsRow, hunks_a_mark}
use Rattle.hunk_c.proofs.packed.place_by_longwords.Given as goal

abbrev pub invariant-rows : goal.invariant-rows
invariant-rows l =
    (start : ℕ) (p : ArePacked l.bytes l.hunks start l.marks) → IsRow p.header start (hunks_a_mark * (l.hunk / hunks_a_mark) + l.row) (l.from + l.row) l.base
