-- The rows of a table: its entries, and where their hunks lie.
use Rattle.std.specs.Prelude.{◌≡◌, ℕ, ◌*◌, ◌<◌, List, length, map, take, slice_index}
use Rattle.hunk_files.specs.Image.{declared_bytes}
use Rattle.hunk_files.specs.LoadFile.{TableEntry}
use Rattle.hunk_files.specs.Tables.{row_entry}
use Rattle.hunk_files.specs.declared.row.Row.{Row}

abbrev pub entries_of : List Row → List TableEntry
entries_of rows = map row_entry rows

-- the row of an entry whose hunk is not placed
abbrev pub row_of : TableEntry → Row
row_of entry = record { word = entry.word; extra = entry.extra; base = 0 }

-- the size words
abbrev pub words_of : List Row → List ℕ
words_of rows = map (λ r. r.word) rows

abbrev pub bases_of : List Row → List ℕ
bases_of rows = map (λ r. r.base) rows

-- how many segments an index has the start of
abbrev pub start_count : ℕ
start_count = 32

-- the hunks from one start of the index to the next
abbrev pub hunks_a_start : ℕ
hunks_a_start = 2048

-- an index: where each of a row of segments begins, a fixed number apart
pub record AreStarts (rows : List Row) (starts : List ℕ) : Type 0 where
  pub count : length starts ≡ start_count
  pub start : (k : ℕ) → k < start_count → slice_index starts k ≡ declared_bytes (entries_of (take (hunks_a_start * k) rows))
