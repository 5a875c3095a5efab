-- The units of an object file are counted by the items that begin one.
use Rattle.std.proofs.Common.{◌≡◌, ℕ, ◌+◌, ◌≤◌, List, [], ◌∷◌, ◌++◌, length, length-append, append_assoc, ap, arith}
use Rattle.hunk_files.specs.Items.{ItemValue, UnitItem, blocks_items, hunks_items, units_items}
use Rattle.hunk_files.specs.ObjectFile.{ObjectFileValue, ObjectHunk, object_text, unit_text}

-- 1 where a unit begins
abbrev pub begins_unit : ItemValue → ℕ
begins_unit (UnitItem number u) = 1
begins_unit _ = 0

abbrev pub units_left : List ItemValue → ℕ
units_left [] = 0
units_left (item ∷ rest) = begins_unit item + units_left rest

in_blocks : (unit hunk : ℕ) (bs : ObjectHunk) (rest : List ItemValue) → units_left (blocks_items unit hunk bs ++ rest) ≡ units_left rest
in_blocks unit hunk [] rest = omega arith
in_blocks unit hunk (b ∷ bs) rest = omega (arith, in_blocks unit hunk bs rest)

in_hunks : (unit number : ℕ) (hs : List ObjectHunk) (rest : List ItemValue) → units_left (hunks_items unit number hs ++ rest) ≡ units_left rest
in_hunks unit number [] rest = omega arith
in_hunks unit number (h ∷ hs) rest =
    let left = hunks_items unit (number + 1) hs in
    omega (arith, ap units_left (append_assoc (blocks_items unit number h) left rest), in_blocks unit number h (left ++ rest), in_hunks unit (number + 1) hs rest)

pub units_counted : (number : ℕ) (us : ObjectFileValue) → units_left (units_items number us) ≡ length us
units_counted number [] = omega arith
units_counted number (u ∷ us) = omega (arith, in_hunks number 0 u.hunks (units_items (number + 1) us), units_counted (number + 1) us)

-- An object file has no more units than its text has longwords.
pub fewer_units : (us : ObjectFileValue) → length us ≤ length (object_text us)
fewer_units [] = omega arith
fewer_units (u ∷ us) = omega (arith, fewer_units us, length-append (unit_text u) (object_text us))
