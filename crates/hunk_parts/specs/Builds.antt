-- What building a file comes to.
use Rattle.std.specs.Prelude.{◌≡◌, ℕ, ◌<◌, ◌≤◌, List, ◌++◌, length, drop, Some, Result, Ok, Err}
use Rattle.hunk_words.specs.Carriers.{saturated}
use Rattle.hunk_files.specs.HunkFile.{file_bytes}
use Rattle.hunk_files.specs.declared.hunk_file.HunkFile.{HunkFile}
use Rattle.hunk_files.specs.declared.hunk_file.HunkFile.TheVariants as files
use Rattle.hunk_parts.specs.PartFaults.{RowFault, row_fault}
use Rattle.hunk_parts.specs.Parts.{AreParts}
use Rattle.hunk_parts.specs.declared.part_row.PartRow.{PartRow}
use Rattle.hunk_parts.specs.declared.row_fault.BuiltSize.{BuiltSize}
use Rattle.hunk_parts.specs.declared.row_fault.NotBuilt.{NotBuilt}
use Rattle.hunk_parts.specs.declared.row_fault.NotBuilt.TheVariants.{NoRoom, Refused}

-- how many hunks a load file has; 0 of an object file
abbrev pub hunks_in : HunkFile → ℕ
hunks_in (files.Load value rest) = length value
hunks_in (files.Object value) = 0

abbrev pub size_of : HunkFile → BuiltSize
size_of file = record { hunks = hunks_in file; bytes = saturated (length (file_bytes file)) }

-- The text begins with the file that the rows spell, and what lies after it is as it was; or all is as it was.
pub data Builds (bytes : List ℕ) (rows : List PartRow) (old new : List ℕ) (result : Result BuiltSize NotBuilt) : Type 0 where
  IsBuilt : (file : HunkFile) → AreParts bytes rows file → length (file_bytes file) ≤ length old
      → new ≡ file_bytes file ++ drop (length (file_bytes file)) old
      → result ≡ Ok (size_of file) → Builds bytes rows old new result
  LacksRoom : (file : HunkFile) → AreParts bytes rows file → length old < length (file_bytes file) → new ≡ old
      → result ≡ Err (NoRoom (size_of file)) → Builds bytes rows old new result
  IsRefused : (f : RowFault) → row_fault bytes rows ≡ Some f → ((file : HunkFile) → AreParts bytes rows file → ⊥) → new ≡ old
      → result ≡ Err (Refused f) → Builds bytes rows old new result
