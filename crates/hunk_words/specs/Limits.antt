-- The limits that the fields of the format set.
use Rattle.std.specs.Prelude.{ℕ, ◌^◌}

-- the most hunks of a load file, a choice of this project
abbrev pub most_hunks : ℕ
most_hunks = 65536

-- a name has fewer longwords, since its count has 24 bits (The AmigaDOS Manual, dos/doshunks.h)
abbrev pub name_limit : ℕ
name_limit = 2 ^ 24

-- a content has fewer longwords, since its size word counts them in 30 bits (The AmigaDOS Manual, dos/doshunks.h)
abbrev pub content_limit : ℕ
content_limit = 2 ^ 30
