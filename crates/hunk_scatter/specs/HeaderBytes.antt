-- The headers of load files as bytes.
use Rattle.std.specs.Prelude.{◌≡◌, ℕ, ◌<◌, ◌≤◌, List, [], ◌∷◌, ◌++◌, length, drop, if◌then◌else◌, ◌⊎◌}
use Rattle.std.specs.List.{AllByRecursion}
use Rattle.hunk_words.specs.Limits.{most_hunks}
use Rattle.hunk_words.specs.Bits.{has_both_bits}
use Rattle.hunk_words.specs.Longs.{bytes_of}
use Rattle.hunk_blocks.specs.Faults.{words}
use Rattle.hunk_files.specs.LoadFile.{TableEntry, IsTableEntry}
use Rattle.hunk_files.specs.LoadText.{header_labelled}

-- The table of some load file.
pub record IsHeaderTable (table : List TableEntry) : Type 0 where
  pub some : 0 < length table
  pub most : length table ≤ most_hunks
  pub each : AllByRecursion IsTableEntry table

abbrev pub header_words : List TableEntry → List ℕ
header_words table = words (header_labelled table)

abbrev pub header_bytes : List TableEntry → List ℕ
header_bytes table = bytes_of (header_words table)

-- The bytes are the header of a table.
abbrev pub IsHeader : List ℕ → Type 0
IsHeader bytes = (table : List TableEntry) × IsHeaderTable table × (bytes ≡ header_bytes table)

-- The bytes begin with the header of the table.
pub record BeginsWithHeader (bytes : List ℕ) (table : List TableEntry) : Type 0 where
  pub is_table : IsHeaderTable table
  pub rest : List ℕ
  pub split : bytes ≡ header_bytes table ++ rest

-- A header begins with the bytes.
pub record IsHeaderFront (bytes : List ℕ) : Type 0 where
  pub table : List TableEntry
  pub is_table : IsHeaderTable table
  pub more : List ℕ
  pub fits : header_bytes table ≡ bytes ++ more

-- A header begins with the bytes, or they begin with one.
pub record MayGoOnInHeader (bytes : List ℕ) : Type 0 where
  pub table : List TableEntry
  pub is_table : IsHeaderTable table
  pub more : List ℕ
  pub fits : (header_bytes table ≡ bytes ++ more) ⊎ (bytes ≡ header_bytes table ++ more)

-- ---- the rows so far

-- the entries that are whole in the longwords of a table
abbrev pub entries_in : List ℕ → List TableEntry
entries_in [] = []
entries_in (w ∷ []) = if has_both_bits w then [] else record { word = w; extra = 0 } ∷ []
entries_in (w ∷ x ∷ rest) =
    if has_both_bits w then record { word = w; extra = x } ∷ entries_in rest
    else record { word = w; extra = 0 } ∷ entries_in (x ∷ rest)

-- the entries that are whole in the longwords of a header, of which five stand before the table
abbrev pub entries_so_far : List ℕ → List TableEntry
entries_so_far ws = entries_in (drop 5 ws)
