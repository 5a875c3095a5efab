-- The reasons that each loader answers, by their numbers.
use Rattle.std.specs.Prelude.{ℕ, Bool, ◌||◌, ◌&&◌, ◌==◌, nat_le}
use Rattle.hunk_words.specs.declared.reason.Reason.{Reason}
use Rattle.hunk_words.specs.Reasons.{number_of}

abbrev pub between : ℕ → ℕ → ℕ → Bool
between low high n = nat_le low n && nat_le n high

-- the tests of a header's longwords, Budget and OutOfMemory
abbrev pub is_of_header : Reason → Bool
is_of_header r = between 1 8 (number_of r) || number_of r == 27 || number_of r == 31

-- the tests of a body's longwords
abbrev pub is_of_body : Reason → Bool
is_of_body r = number_of r == 3 || number_of r == 9 || between 11 24 (number_of r)

-- the tests of all longwords
abbrev pub is_of_longwords : Reason → Bool
is_of_longwords r = between 1 9 (number_of r) || between 11 24 (number_of r)

-- the faults of a load file: the tests of all longwords, and Truncated
abbrev pub is_of_file : Reason → Bool
is_of_file r = is_of_longwords r || number_of r == 26
