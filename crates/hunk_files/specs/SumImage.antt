-- The memory of a hunk whose relocated longs lie apart.
use Rattle.std.specs.Prelude.{◌≡◌, ℕ, ◌+◌, ◌%◌, ◌^◌, ◌<◌, ◌≤◌, ◌==◌, List, length, take, drop, get_or, if◌then◌else◌, ◌⊎◌}
use Rattle.std.specs.List.{Contains, sum_by}
use Rattle.std.specs.Int.{w32, from_be_bytes}
use Rattle.hunk_files.specs.LoadFile.{HunkValue}
use Rattle.hunk_words.specs.Longs.{IsBytes}
use Rattle.hunk_files.specs.Image.{content, relocations, offsets}

-- The big-endian number of the four bytes at the offset.
abbrev pub long_at : List ℕ → ℕ → ℕ
long_at bytes offset = from_be_bytes w32 (take 4 (drop offset bytes))

-- The sum of the bases of all the targets that are named with the offset.
abbrev pub added : List ℕ → List (ℕ × ℕ) → ℕ → ℕ
added bases pairs offset = sum_by (λ pair. if pair.0 == offset then get_or bases pair.1 0 else 0) pairs

-- The byte is in none of the longs at the offsets.
abbrev pub IsOutside : List ℕ → ℕ → Type 0
IsOutside places i = (o : ℕ) → Contains places o → (i < o) ⊎ (o + 4 ≤ i)

-- The long at each offset is that of the content plus the bases of all its targets, and every other byte is the
-- content's.
pub record IsSum (bases content : List ℕ) (pairs : List (ℕ × ℕ)) (memory : List ℕ) : Type 0 where
  pub bytes : IsBytes memory
  pub size : length memory ≡ length content
  pub at_offsets : (o : ℕ) → Contains (offsets pairs) o → long_at memory o ≡ (long_at content o + added bases pairs o) % 2 ^ 32
  pub other : (i : ℕ) → IsOutside (offsets pairs) i → get_or memory i 0 ≡ get_or content i 0

-- The sum image of a hunk, where the hunks lie at these bases.
abbrev pub IsSumImage : List ℕ → HunkValue → List ℕ → Type 0
IsSumImage bases h memory = IsSum bases (content h) (relocations h) memory
