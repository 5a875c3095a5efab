-- The tests of what is suspicious in a hunk.
use Rattle.std.specs.Prelude.{ℕ, ◌+◌, ◌-◌, ◌^◌, ◌==◌, Bool, true, false, List, [], ◌∷◌, Option, Some, None, nat_lt, if◌then◌else◌}

-- The value leads neither into a hunk of this size nor to its end. From 0x8000 below its start on it is a pointer to an
-- array whose first index is not 0, and at 0x7FFE the register of a small data model points.
abbrev pub is_outside : ℕ → ℕ → Bool
is_outside size value =
    if nat_lt size value then (if value == 0x7FFE then false else nat_lt value (2 ^ 32 - 0x8000)) else false

-- 1 to 3 apart
abbrev pub is_close : ℕ → ℕ → Bool
is_close a b = if nat_lt a b then nat_lt b (a + 4) else if nat_lt b a then nat_lt a (b + 4) else false

-- the least of a number and others
abbrev pub least_of : ℕ → List ℕ → ℕ
least_of n [] = n
least_of n (x ∷ rest) = least_of (if nat_lt x n then x else n) rest

abbrev pub least : List ℕ → Option ℕ
least [] = None
least (x ∷ rest) = Some (least_of x rest)

-- A block asks for a memory, and the table for another, not by attributes: the memory bits of each.
abbrev pub ignores_memory : ℕ → ℕ → Bool
ignores_memory asked given =
    if asked == 0 then false else if asked == given then false else if given == 3 then false else true
