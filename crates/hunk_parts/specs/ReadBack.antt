-- A file that was built, read again.
use Rattle.std.specs.Prelude.{◌≡◌, ℕ, List, map}
use Rattle.hunk_files.specs.HunkFile.{IsFileOf, bytes_after}
use Rattle.hunk_files.specs.declared.hunk_file.HunkFile.{HunkFile}
use Rattle.hunk_parts.specs.PartRows.{part_rows}
use Rattle.hunk_parts.specs.Parts.{seen}
use Rattle.hunk_parts.specs.declared.part_row.PartRow.{PartRow}

-- The text is a file, and nothing more; and its rows are these again, each seen in its own bytes.
pub record HasRows (bytes : List ℕ) (rows : List PartRow) (text : List ℕ) (file : HunkFile) : Type 0 where
  pub whole : IsFileOf text file
  pub nothing_after : bytes_after file ≡ 0
  pub again : map (seen text) (part_rows file) ≡ map (seen bytes) rows
