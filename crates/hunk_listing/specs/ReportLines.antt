-- The lines of a report: what a load file declares, and what is found in an object file.
use Rattle.std.specs.Prelude.{ℕ, List, ◌++◌, length, codes, decimal}
use Rattle.std.specs.List.{flat_map}
use Rattle.hunk_files.specs.declared.object.check.Finding.{Finding}
use Rattle.hunk_files.specs.declared.object.check.FindingKind.{FindingKind}
use Rattle.hunk_files.specs.declared.object.check.FindingKind.TheVariants.{BadTarget, OutsideHunk}
use Rattle.hunk_files.specs.LoadFile.{LoadFileValue}
use Rattle.hunk_files.specs.ObjectFile.{ObjectFileValue}
use Rattle.hunk_files.specs.Findings.{findings}
use Rattle.hunk_listing.specs.Printed.{hexadecimal}
use Rattle.hunk_listing.specs.FileLines.{load_head, where_rest}

-- the first line of `show`, and its last where bytes follow the file
abbrev pub load_summary : LoadFileValue → ℕ → List ℕ
load_summary file rest = load_head file ++ where_rest rest

abbrev pub finding_name : FindingKind → List ℕ
finding_name BadTarget = codes "BadTarget"
finding_name OutsideHunk = codes "OutsideHunk"

-- `unit D hunk D offset `, with which the line of a finding in that hunk begins
unfoldable pub finding_front : ℕ → ℕ → List ℕ
finding_front unit hunk = codes "unit " ++ decimal unit ++ codes " hunk " ++ decimal hunk ++ codes " offset "

-- `unit D hunk D offset X NAME`
unfoldable pub finding_line : Finding → List ℕ
finding_line finding =
    finding_front finding.unit finding.hunk ++ hexadecimal finding.offset ++ codes " " ++ finding_name finding.fault
    ++ codes "\n"

-- `object file D units D findings`: how many units, and how much is found in them
unfoldable pub totals_line : ℕ → ℕ → List ℕ
totals_line units count = codes "object file " ++ decimal units ++ codes " units " ++ decimal count ++ codes " findings\n"

abbrev pub object_report : ObjectFileValue → List ℕ
object_report file = flat_map finding_line (findings file) ++ totals_line (length file) (length (findings file))
