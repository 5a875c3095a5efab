-- How far rows are those of a file.
use Rattle.std.specs.Prelude.{◌≡◌, ℕ, List, ◌++◌, map, take, Some}
use Rattle.hunk_files.specs.HunkFile.{IsFileOf, file_bytes}
use Rattle.hunk_files.specs.declared.hunk_file.HunkFile.{HunkFile}
use Rattle.hunk_parts.specs.Builds.{hunks_in}
use Rattle.hunk_parts.specs.Parts.{FilePart, parts_of, seen}
use Rattle.hunk_parts.specs.declared.part_row.PartRow.{PartRow}

-- Some file of so many hunks begins with the parts that the first rows are, this many of them.
pub record BeginsSome (hunks : ℕ) (bytes : List ℕ) (rows : List PartRow) (count : ℕ) : Type 0 where
  pub file : HunkFile
  pub whole : IsFileOf (file_bytes file) file
  pub hunks_are : hunks_in file ≡ hunks
  pub more : List FilePart
  pub begins : map Some (parts_of file) ≡ map (seen bytes) (take count rows) ++ map Some more
