-- What placers answer, and what it makes of a table.
use Rattle.std.specs.Prelude.{◌≡◌, ℕ, ◌+◌, ◌*◌, ◌^◌, ◌<◌, List, length, take, get_or, slice_get, nat_le, nat_lt, if◌then◌else◌, Option, Some, None, IsSome}
use Rattle.hunk_words.specs.Bits.{size_longs}
use Rattle.hunk_words.specs.declared.reason.Reason.{Reason}
use Rattle.hunk_words.specs.declared.reason.Reason.TheVariants as reasons
use Rattle.hunk_files.specs.declared.row.Row.{Row}
use Rattle.hunk_files.specs.Image.{declared_bytes}
use Rattle.hunk_files.specs.LoadFile.{TableEntry}
use Rattle.hunk_scatter.specs.Rows.{row_of, entries_of, bases_of}

-- what a placer answers: of the hunk's number, its row, and the declared bytes before it
abbrev pub Placing : Type 0
Placing = ℕ → Row → ℕ → Option ℕ

-- hunks one after another from a first byte; none may pass the end of the address space
abbrev pub packed_base : ℕ → Row → ℕ → Option ℕ
packed_base start row before =
    if nat_le (2 ^ 32) (start + before) then None
    else if nat_lt (2 ^ 32) (start + before + 4 * size_longs row.word) then None
    else Some (start + before)

-- each hunk at the base of its number
abbrev pub listed_in : List ℕ → Placing
listed_in bases = λ hunk row before. slice_get bases hunk

-- hunks one right after the other from a first byte on
abbrev pub packed_from : ℕ → Placing
packed_from start = λ hunk row before. packed_base start row before

-- what is answered for a hunk of a table
abbrev pub base_at : Placing → List TableEntry → ℕ → Option ℕ
base_at base table i = base i (row_of (get_or table i (record { word = 0; extra = 0 }))) (declared_bytes (take i table))

-- These are the bases of all hunks.
pub record AreBases (base : Placing) (table : List TableEntry) (bases : List ℕ) : Type 0 where
  pub count : length bases ≡ length table
  pub each : (i : ℕ) → i < length table → base_at base table i ≡ Some (get_or bases i 0)

-- Each hunk is given a base.
abbrev pub HasBases : Placing → List TableEntry → Type 0
HasBases base table = (i : ℕ) → i < length table → IsSome (base_at base table i)

-- This hunk is the first that is given none.
pub record IsFirstUnplaced (base : Placing) (table : List TableEntry) (hunk : ℕ) : Type 0 where
  pub inside : hunk < length table
  pub none : base_at base table hunk ≡ None
  pub first : (i : ℕ) → i < hunk → IsSome (base_at base table i)

-- Why a table is not placed: a hunk has no base, or there is no memory for the store.
abbrev pub IsUnplacedFor : Placing → List TableEntry → Reason → Type 0
IsUnplacedFor base table (reasons.NoBase hunk) = IsFirstUnplaced base table hunk
IsUnplacedFor base table reasons.OutOfMemory = HasBases base table
IsUnplacedFor base table _ = ⊥

-- ---- the loop over the rows

-- The hunks before this one are placed, and the others are as they were.
pub record ArePlacedTo (base : Placing) (table : List TableEntry) (old rows : List Row) (hunk before : ℕ) : Type 0 where
  pub entries : entries_of rows ≡ table
  pub later : (k : ℕ) → (k < hunk → ⊥) → (d : Row) → get_or rows k d ≡ get_or old k d
  pub given : (k : ℕ) → k < hunk → base_at base table k ≡ Some (get_or (bases_of rows) k 0)
  pub before_is : before ≡ declared_bytes (take hunk table)
