-- What is wrong with a file, in the caller's rows.
use Rattle.std.specs.Prelude.{ℕ, List, [], map}
use Rattle.hunk_files.specs.PlacedFindings.{PlacedFinding, placed_findings}
use Rattle.hunk_files.specs.declared.hunk_file.HunkFile.{HunkFile}
use Rattle.hunk_files.specs.declared.hunk_file.HunkFile.TheVariants as files
use Rattle.hunk_files.specs.declared.object.check.FindingKind.{FindingKind}
use Rattle.hunk_files.specs.declared.object.check.FindingKind.TheVariants.{BadTarget, OutsideHunk}
use Rattle.hunk_c.specs.declared.answer.Answer.{Answer}
use Rattle.hunk_c.specs.declared.check.FindingRow.{FindingRow}
use Rattle.hunk_c.specs.Rows.{ListsExactly}

abbrev pub kind_number : FindingKind → ℕ
kind_number BadTarget = 1
kind_number OutsideHunk = 2

-- what the caller sees of a finding
abbrev pub finding_row : PlacedFinding → FindingRow
finding_row f = record {
  place = f.place;
  unit = f.value.unit;
  hunk = f.value.hunk;
  offset = f.value.offset;
  fault = kind_number f.value.fault;
  reserved = 0;
}

-- those of a file, each with the byte at which its offset stands; a load file has none
abbrev pub finding_rows : HunkFile → List FindingRow
finding_rows (files.Load value rest) = []
finding_rows (files.Object value) = map finding_row (placed_findings value)

-- What a check comes to.
abbrev pub Checks : List ℕ → List FindingRow → List FindingRow → Answer → Type 0
Checks = ListsExactly finding_rows
