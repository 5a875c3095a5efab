-- Files of the input, and what is told of them.
use Rattle.std.proofs.Common.{ℕ, List, length, refl, inl, inr, ap, ap₂}
use Rattle.hunk_files.specs.{ObjectFile.ObjectFileValue, Findings.findings, HunkFile.IsFileOf, declared.hunk_file.HunkFile.HunkFile}
use Rattle.hunk_files.specs.declared.hunk_file.HunkFile.TheVariants as files
use Rattle.hunk_listing.specs.{FileLines.{load_listing, object_listing}, ReportLines.{load_summary, object_report}}
use Rattle.hunk_commands.specs.{Reports.{finding_count, report}, Shown.{IsShown, file_listing}, Validated.IsValidated}

-- ---- its texts

pub shown_file : (bytes : List ℕ) (file : HunkFile) → IsFileOf bytes file → IsShown bytes (file_listing file)
shown_file bytes (files.Load value rest) is = inl (is.0, ap₂ load_listing is.1 is.2)
shown_file bytes (files.Object value) is = inr (is.0, ap object_listing is.1)

pub validated_file : (bytes : List ℕ) (file : HunkFile) → IsFileOf bytes file → IsValidated (finding_count file) bytes (report file)
validated_file bytes (files.Load value rest) is = inl (is.0, refl, ap₂ load_summary is.1 is.2)
validated_file bytes (files.Object value) is = inr (is.0, ap (λ (v : ObjectFileValue). length (findings v)) is.1, ap object_report is.1)
