-- What is reported of a file.
use Rattle.std.specs.Prelude.{ℕ, List, length}
use Rattle.hunk_files.specs.Findings.{findings}
use Rattle.hunk_listing.specs.ReportLines.{load_summary, object_report}
use Rattle.hunk_files.specs.declared.hunk_file.HunkFile.{HunkFile}
use Rattle.hunk_files.specs.declared.hunk_file.HunkFile.TheVariants as files

-- how much is found in it
abbrev pub finding_count : HunkFile → ℕ
finding_count (files.Load value rest) = 0
finding_count (files.Object value) = length (findings value)

abbrev pub report : HunkFile → List ℕ
report (files.Load value rest) = load_summary value rest
report (files.Object value) = object_report value
