-- The part of a file that a longword is of, by the longwords before it.
use Rattle.std.specs.Prelude.{◌≡◌, ℕ, zero, suc, ◌<◌, ◌-◌, ◌/◌, List, [], ◌∷◌, ◌++◌, length, take, Some, None, codes}
use Rattle.std.specs.Fmt.{decimal}
use Rattle.std.specs.List.{AllByRecursion}
use Rattle.hunk_words.specs.Limits.{name_limit}
use Rattle.hunk_words.specs.Longs.{longs}
use Rattle.hunk_words.specs.declared.fault.Fault.{Fault}
use Rattle.hunk_words.specs.declared.reason.Reason.{Reason}
use Rattle.hunk_blocks.specs.Faults.{Expects}
use Rattle.hunk_blocks.specs.Values.{IsPayload}
use Rattle.hunk_grammar.specs.declared.file_kind.Sniff.{Sniff}
use Rattle.hunk_grammar.specs.declared.file_kind.Sniff.TheVariants as sniffs
use Rattle.hunk_grammar.specs.declared.object_position.ObjectPosition.{ObjectPosition}
use Rattle.hunk_grammar.specs.declared.object_position.ObjectPosition.TheVariants as positions
use Rattle.hunk_files.specs.Hunks.{block_texts}
use Rattle.hunk_files.specs.LoadFile.{HunkValue, LoadFileValue, IsLoadFile}
use Rattle.hunk_grammar.specs.ObjectRoles.{ObjectRole}
use Rattle.hunk_grammar.specs.declared.object_position.WordPlace.TheVariants.{BetweenHunks}
use Rattle.hunk_files.specs.ObjectFault.{blocks_from}
use Rattle.hunk_files.specs.ObjectFile.{UnitValue, ObjectFileValue, IsUnit, unit_header, unit_text, object_text}
use Rattle.hunk_files.specs.Tables.{header_text, hunk_texts}
use Rattle.hunk_files.specs.declared.part.Part.{Part}
use Rattle.hunk_files.specs.declared.part.Part.TheVariants as parts

-- ---- load files

-- Of a load file its header, but not all of it.
pub record IsInLoadHeader (before : List ℕ) : Type 0 where
  pub value : LoadFileValue
  pub is_load_file : IsLoadFile value
  pub next : ℕ
  pub more : List ℕ
  pub split : header_text value ≡ before ++ next ∷ more

-- Of a load file its header and its first hunks, so many, and a front of the next that goes on.
pub record IsInLoadHunk (before : List ℕ) (hunk : ℕ) : Type 0 where
  pub whole : List HunkValue
  pub hunk_open : HunkValue
  pub ahead : List HunkValue
  pub front : List ℕ
  pub next : ℕ
  pub more : List ℕ
  pub is_load_file : IsLoadFile (whole ++ hunk_open ∷ ahead)
  pub split : before ≡ header_text (whole ++ hunk_open ∷ ahead) ++ (hunk_texts whole ++ front)
  pub goes_on : block_texts hunk_open.blocks ≡ front ++ next ∷ more
  pub hunk_is : hunk ≡ length whole

-- These longwords are of a load file, and the next is of this part.
pub data IsLoadPart (before : List ℕ) : Part → Type 0 where
  of_header : IsInLoadHeader before → IsLoadPart before parts.Header
  of_hunk : (hunk : ℕ) → IsInLoadHunk before hunk → IsLoadPart before (parts.Hunk hunk)

-- ---- object files

-- How many units began, and how many parts of the last are whole, its name and hunks, where a longword led here.
abbrev pub counted : ObjectPosition → ℕ × ℕ → ℕ × ℕ
counted positions.UnitCount counts = (suc counts.0, 0)
counted (positions.Word BetweenHunks) counts = (counts.0, suc counts.1)
counted position counts = counts

-- The part by these numbers: none is whole before the end of the unit's name.
abbrev pub part_by : ℕ → ℕ → Part
part_by begun zero = parts.Unit (begun - 1) None
part_by begun (suc whole) = parts.Unit (begun - 1) (Some whole)

-- Whole units, and of the next its header, but not all of it: after a unit, at least the word.
pub record IsInHeader (before : List ℕ) (unit : ℕ) : Type 0 where
  pub units : ObjectFileValue
  pub name : List ℕ
  pub count : ℕ
  pub are_units : AllByRecursion IsUnit units
  pub is_name : IsPayload name_limit name
  pub split : before ≡ object_text units ++ take count (unit_header name)
  pub begun : count ≡ 0 → units ≡ []
  pub not_whole : count < length (unit_header name)
  pub unit_is : unit ≡ length units

-- Whole units, of the next its name and whole hunks, and then a front of a hunk that goes on.
pub record IsInHunk (before : List ℕ) (unit hunk : ℕ) : Type 0 where
  pub units : ObjectFileValue
  pub unit_open : UnitValue
  pub front : List ℕ
  pub role : ObjectRole
  pub are_units : AllByRecursion IsUnit units
  pub is_unit : IsUnit unit_open
  pub split : before ≡ object_text units ++ (unit_text unit_open ++ front)
  pub goes_on : Expects (blocks_from BetweenHunks) front role
  pub unit_is : unit ≡ length units
  pub hunk_is : hunk ≡ length unit_open.hunks

-- These longwords are of units, and the next is of this part.
abbrev pub IsUnitPart : List ℕ → Part → Type 0
IsUnitPart before (parts.Unit unit None) = IsInHeader before unit
IsUnitPart before (parts.Unit unit (Some hunk)) = IsInHunk before unit hunk
IsUnitPart before part = ⊥

-- ---- either

abbrev pub IsPartAfter : Sniff → List ℕ → Part → Type 0
IsPartAfter sniffs.Object before part = IsUnitPart before part
IsPartAfter kind before part = IsLoadPart before part

-- By the longwords before it, the longword at this byte is of this part.
abbrev pub IsPartAt : Sniff → List ℕ → ℕ → Part → Type 0
IsPartAt kind bytes place part = IsPartAfter kind (take (place / 4) (longs bytes)) part

abbrev pub fault_at : ℕ → Reason → Fault
fault_at place reason = record { place = place; reason = reason }

-- ---- what it is shown as

abbrev pub part_line : Part → List ℕ
part_line parts.Header = codes "the header"
part_line (parts.Hunk number) = codes "hunk " ++ decimal number
part_line (parts.Unit number None) = codes "unit " ++ decimal number
part_line (parts.Unit number (Some hunk)) = codes "unit " ++ decimal number ++ codes " hunk " ++ decimal hunk
