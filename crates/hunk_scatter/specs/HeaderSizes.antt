-- The size of a header, read with no memory for its rows.
use Rattle.std.specs.Prelude.{◌≡◌, ℕ, ◌≤◌, List, length, ◌⊎◌}
use Rattle.hunk_words.specs.declared.fault.Fault.{Fault}
use Rattle.hunk_words.specs.declared.reason.Reason.{Reason}
use Rattle.hunk_words.specs.declared.reason.Reason.TheVariants as reasons
use Rattle.hunk_files.specs.Fault.{HasRefusal, IsTruncated}
use Rattle.hunk_files.specs.Image.{declared_bytes}
use Rattle.hunk_files.specs.LoadFile.{TableEntry}
use Rattle.hunk_scatter.specs.HeaderBytes.{BeginsWithHeader, header_bytes}
use Rattle.hunk_scatter.specs.HeaderFaults.{ExceedsBudget, KeepsToBudget}
use Rattle.hunk_scatter.specs.HeaderOwing.{HeaderOwes}
use Rattle.hunk_scatter.specs.declared.header_state.HeaderSize.{HeaderSize}

-- The bytes begin with a header of this size, whose table keeps to the budget.
pub record HasHeaderSize (budget : ℕ) (bytes : List ℕ) (size : HeaderSize) : Type 0 where
  pub table : List TableEntry
  pub header : BeginsWithHeader bytes table
  pub hunks_are : size.hunks ≡ length table
  pub bytes_are : size.bytes ≡ length (header_bytes table)
  pub declared_are : size.declared ≡ declared_bytes table
  pub within : declared_bytes table ≤ budget

-- The bytes begin with the header of some table.
abbrev pub HasHeaderInFront : List ℕ → Type 0
HasHeaderInFront bytes = (table : List TableEntry) × BeginsWithHeader bytes table

-- Why a header is refused: a longword is, or with one the declared bytes first pass the budget, or the bytes end before
-- that.
abbrev pub RefusesHeader : ℕ → List ℕ → Fault → Type 0
RefusesHeader budget bytes f =
    HasRefusal bytes f.place f.reason
    ⊎ (((f.reason ≡ reasons.Budget) × ExceedsBudget budget bytes f.place)
    ⊎ ((f.reason ≡ reasons.Truncated) × IsTruncated bytes f.place × KeepsToBudget budget bytes))

-- Where the bytes end inside the header, this many are told that it still has at least; else none.
abbrev pub TellsOwed : List ℕ → Reason → ℕ → Type 0
TellsOwed bytes reasons.Truncated owed = HeaderOwes bytes owed
TellsOwed bytes _ owed = owed ≡ 0
