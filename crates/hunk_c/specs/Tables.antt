-- Tables in the caller's rows.
use Rattle.std.specs.Prelude.{◌≡◌, ℕ, ◌*◌, ◌<◌, ◌≤◌, List, ◌++◌, length, map, drop}
use Rattle.hunk_words.specs.Bits.{size_longs, memory_bits}
use Rattle.hunk_words.specs.declared.fault.Fault.{Fault}
use Rattle.hunk_words.specs.declared.reason.Reason.TheVariants as reasons
use Rattle.hunk_files.specs.Image.{declared_bytes}
use Rattle.hunk_files.specs.LoadFile.{TableEntry}
use Rattle.hunk_scatter.specs.HeaderBytes.{BeginsWithHeader, header_bytes}
use Rattle.hunk_c.specs.declared.answer.Answer.{Answer}
use Rattle.hunk_c.specs.declared.table.TableRow.{TableRow}
use Rattle.hunk_c.specs.Answers.{refused_owing, no_room, done}
use Rattle.hunk_scatter.specs.HeaderSizes.{RefusesHeader, TellsOwed}

-- what the caller sees of an entry
abbrev pub table_row : TableEntry → TableRow
table_row e = record { word = e.word; extra = e.extra; bytes = 4 * size_longs e.word; memory = memory_bits e.word }

-- The bytes begin with a header of this many hunks.
abbrev pub BeginsWithTableOf : ℕ → List ℕ → Type 0
BeginsWithTableOf hunks bytes = (t : List TableEntry) × BeginsWithHeader bytes t × (length t ≡ hunks)

-- Where the bytes begin with a header, the budget alone refuses it.
abbrev pub AcceptsHeader : List ℕ → Fault → Type 0
AcceptsHeader bytes f = (t : List TableEntry) → BeginsWithHeader bytes t → f.reason ≡ reasons.Budget

-- What the reading of a table comes to. The rows begin with it, and what lies after it is as it was; or all are as they were.
-- Where the bytes end inside the header, the answer has how many more it has at least.
pub data Tables (budget : ℕ) (bytes : List ℕ) (old new : List TableRow) (answer : Answer) : Type 0 where
  HasTable : (t : List TableEntry) → BeginsWithHeader bytes t → declared_bytes t ≤ budget → length t ≤ length old
      → new ≡ map table_row t ++ drop (length t) old
      → answer ≡ done (length t) (length (header_bytes t)) (declared_bytes t) → Tables budget bytes old new answer
  HasNoRows : (t : List TableEntry) → BeginsWithHeader bytes t → declared_bytes t ≤ budget → length old < length t → new ≡ old
      → answer ≡ no_room (length t) (length (header_bytes t)) (declared_bytes t) → Tables budget bytes old new answer
  HasNoTable : (f : Fault) (owed : ℕ) → RefusesHeader budget bytes f → AcceptsHeader bytes f → TellsOwed bytes f.reason owed → new ≡ old
      → answer ≡ refused_owing f owed → Tables budget bytes old new answer
