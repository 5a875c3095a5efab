-- What is suspicious in a file, in the caller's rows.
use Rattle.std.specs.Prelude.{◌≡◌, ℕ, ◌<◌, ◌≤◌, List, [], length, map}
use Rattle.hunk_files.specs.HunkFile.{IsFileOf, file_bytes}
use Rattle.hunk_files.specs.LoadFile.{LoadFileValue}
use Rattle.hunk_files.specs.declared.hunk_file.HunkFile.{HunkFile}
use Rattle.hunk_files.specs.declared.hunk_file.HunkFile.TheVariants as files
use Rattle.hunk_lint.specs.Room.{room_for}
use Rattle.hunk_lint.specs.Warnings.{warnings}
use Rattle.hunk_lint.specs.declared.warning.Warning.{Warning}
use Rattle.hunk_lint.specs.declared.warning.WarningKind.{WarningKind}
use Rattle.hunk_lint.specs.declared.warning.WarningKind.TheVariants.{OddOffset, Twice, Overlap, InBss, OutsideTarget, SymbolOutside, NoEntry, MemoryIgnored}
use Rattle.hunk_c.specs.declared.answer.Answer.{Answer}
use Rattle.hunk_c.specs.declared.warnings.WarningRow.{WarningRow}
use Rattle.hunk_c.specs.Answers.{no_room}
use Rattle.hunk_c.specs.Files.{hunks_in}
use Rattle.hunk_c.specs.Rows.{ListsExactly}

abbrev pub kind_number : WarningKind → ℕ
kind_number OddOffset = 1
kind_number Twice = 2
kind_number Overlap = 3
kind_number InBss = 4
kind_number OutsideTarget = 5
kind_number SymbolOutside = 6
kind_number NoEntry = 7
kind_number MemoryIgnored = 8

-- what the caller sees of a warning
abbrev pub warning_row : Warning → WarningRow
warning_row w = record {
  place = w.place;
  hunk = w.hunk;
  kind = kind_number w.kind;
  offset = w.offset;
  target = w.target;
  value = w.value;
  other = w.other;
  reserved = 0;
}

abbrev pub load_rows : LoadFileValue → List WarningRow
load_rows value = map warning_row (warnings value)

-- those of a file; an object file has none
abbrev pub warning_rows : HunkFile → List WarningRow
warning_rows (files.Load value rest) = load_rows value
warning_rows (files.Object value) = []

-- how many elements of room the call takes for them
abbrev pub room_in : HunkFile → ℕ
room_in (files.Load value rest) = room_for value
room_in (files.Object value) = 0

-- What the call comes to. The room is too small, which 0 rows that are needed tell, and the caller's rows are as they were. Or
-- they are listed.
pub data Warns (bytes : List ℕ) (room : ℕ) (old new : List WarningRow) (answer : Answer) : Type 0 where
  LacksWorkRoom : (file : HunkFile) → IsFileOf bytes file → room < room_in file → new ≡ old
      → answer ≡ no_room (hunks_in file) (length (file_bytes file)) 0 → Warns bytes room old new answer
  ListsWarnings : ListsExactly warning_rows bytes old new answer → Warns bytes room old new answer

-- Where a file is in front, the room is enough, and there is a row for each warning, they are listed.
abbrev pub WarnsWhatFits : ℕ → ℕ → List ℕ → Answer → Type 0
WarnsWhatFits room most bytes answer =
    (file : HunkFile) → IsFileOf bytes file → room_in file ≤ room → length (warning_rows file) ≤ most → answer.number ≡ 0
