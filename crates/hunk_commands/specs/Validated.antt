-- What `validate` prints, and how much it finds.
use Rattle.std.specs.Prelude.{◌≡◌, ◌<◌, ◌⊎◌, ℕ, List, length}
use Rattle.hunk_files.specs.Fault.{BeginsWithLoadFile}
use Rattle.hunk_files.specs.Findings.{findings}
use Rattle.hunk_listing.specs.ReportLines.{load_summary, object_report}
use Rattle.hunk_files.specs.HunkFile.{AreObjectFile}

-- The text is printed of the bytes, of which there are this many findings.
abbrev pub IsValidated : ℕ → List ℕ → List ℕ → Type 0
IsValidated count bytes text =
    ((file : BeginsWithLoadFile bytes) × (count ≡ 0) × (text ≡ load_summary file.value (length file.rest)))
    ⊎ ((file : AreObjectFile bytes) × (count ≡ length (findings file.value)) × (text ≡ object_report file.value))

-- a report that finds something
abbrev pub IsFound : List ℕ → List ℕ → Type 0
IsFound bytes text = (count : ℕ) × (0 < count) × IsValidated count bytes text
