-- What is still to come of a header.
use Rattle.std.specs.Prelude.{◌≡◌, ℕ, ◌+◌, ◌-◌, ◌*◌, ◌%◌, ◌<◌, ◌≤◌, List, ◌++◌, length, get_or}
use Rattle.hunk_words.specs.Longs.{longs}
use Rattle.hunk_files.specs.LoadFile.{TableEntry}
use Rattle.hunk_scatter.specs.HeaderBytes.{IsHeaderTable, header_bytes, header_words, entries_so_far}

-- The rows that a header owes: as many as its third longword declares hunks, less those that are whole.
abbrev pub rows_owed : List ℕ → ℕ
rows_owed ws = get_or ws 2 0 - length (entries_so_far ws)

-- This many bytes are to come, where each row owed has one longword more, of which the pending bytes have come.
abbrev pub HasRowsToCome : List ℕ → ℕ → Type 0
HasRowsToCome fed p = p + length fed % 4 ≡ 4 * rows_owed (longs fed)

-- This many bytes are to come, where each header that begins with the longwords fed has this many longwords more at least.
pub record HasHeaderToCome (fed : List ℕ) (p : ℕ) : Type 0 where
  pub owed : ℕ
  pub least : (table : List TableEntry) (more : List ℕ) → IsHeaderTable table
      → header_words table ≡ longs fed ++ more → owed ≤ length more
  pub count : p + length fed % 4 ≡ 4 * owed

-- Each header that begins with the bytes has this many more at least, and one that begins with their longwords ends just then.
pub record HeaderOwes (bytes : List ℕ) (owed : ℕ) : Type 0 where
  pub some : 0 < owed
  pub least : (t : List TableEntry) (rest : List ℕ) → IsHeaderTable t → header_bytes t ≡ bytes ++ rest → owed ≤ length rest
  pub table : List TableEntry
  pub is_table : IsHeaderTable table
  pub more : List ℕ
  pub begins : header_words table ≡ longs bytes ++ more
  pub ends : owed + length bytes % 4 ≡ 4 * length more
