-- Load files in the caller's memory.
use Rattle.std.specs.Prelude.{◌≡◌, ℕ, ◌<◌, ◌≤◌, List, ◌++◌, length, drop, ◌⊎◌}
use Rattle.hunk_words.specs.Longs.{bytes_of}
use Rattle.hunk_words.specs.declared.fault.Fault.{Fault}
use Rattle.hunk_words.specs.declared.reason.Reason.TheVariants as reasons
use Rattle.hunk_files.specs.Fault.{BeginsWithLoadFile, HasFault}
use Rattle.hunk_files.specs.Image.{declared_bytes, images}
use Rattle.hunk_files.specs.LoadFile.{TableEntry, LoadFileValue, IsLoadFile}
use Rattle.hunk_files.specs.LoadText.{table, text}
use Rattle.hunk_scatter.specs.HeaderBytes.{BeginsWithHeader, header_bytes}
use Rattle.hunk_scatter.specs.Placing.{Placing, AreBases, HasBases, IsFirstUnplaced}
use Rattle.hunk_c.specs.declared.answer.Answer.{Answer}
use Rattle.hunk_c.specs.Answers.{refused, no_room, done}

-- These are the bases of the hunks of whichever header the bytes begin with.
abbrev pub AreBasesOf : Placing → List ℕ → List ℕ → Type 0
AreBasesOf base bytes bases = (t : List TableEntry) → BeginsWithHeader bytes t → AreBases base t bases

-- The hunks of the table fit, and each has a base.
abbrev pub HavePlaces : Placing → ℕ → List TableEntry → Type 0
HavePlaces base room t = (declared_bytes t ≤ room) × HasBases base t

-- ---- loads

-- The bytes begin with a load file. The memory begins with its hunks, each as it lies at its base, one right after the other; the rest of it is as it was.
pub record IsLoadedInto (base : Placing) (bytes old new : List ℕ) (answer : Answer) : Type 0 where
  pub value : LoadFileValue
  pub is_load_file : IsLoadFile value
  pub rest : List ℕ
  pub split : bytes ≡ bytes_of (text value) ++ rest
  pub bases : List ℕ
  pub are_bases : AreBases base (table value) bases
  pub fits : declared_bytes (table value) ≤ length old
  pub memory : new ≡ images bases value ++ drop (declared_bytes (table value)) old
  pub answer_is : answer ≡ done (length value) (length (bytes_of (text value))) (declared_bytes (table value))

-- Whichever header the bytes begin with, its hunks fit, and each has a base.
abbrev pub FitsAndHasBases : Placing → ℕ → List ℕ → Type 0
FitsAndHasBases base room bytes = (t : List TableEntry) → BeginsWithHeader bytes t → HavePlaces base room t

-- Why a file is not loaded into memory of this many bytes.
pub data IsNotLoaded (base : Placing) (room : ℕ) (bytes : List ℕ) (answer : Answer) : Type 0 where
  HasNoFile : (f : Fault) → HasFault bytes f.place f.reason → FitsAndHasBases base room bytes
      → answer ≡ refused f → IsNotLoaded base room bytes answer
  HasNoRoom : (t : List TableEntry) → BeginsWithHeader bytes t → room < declared_bytes t
      → answer ≡ no_room (length t) (length (header_bytes t)) (declared_bytes t) → IsNotLoaded base room bytes answer
  HasNoBase : (t : List TableEntry) (hunk : ℕ) → BeginsWithHeader bytes t → declared_bytes t ≤ room → IsFirstUnplaced base t hunk
      → answer ≡ refused (record { place = length (header_bytes t); reason = reasons.NoBase hunk }) → IsNotLoaded base room bytes answer

-- What a load comes to.
abbrev pub Loads : Placing → List ℕ → List ℕ → List ℕ → Answer → Type 0
Loads base bytes old new answer = IsLoadedInto base bytes old new answer ⊎ (IsNotLoaded base (length old) bytes answer × (new ≡ old))

-- Where the bytes begin with a load file that fits, and each of its hunks has a base, it is loaded.
abbrev pub LoadsWhatFits : Placing → ℕ → List ℕ → Answer → Type 0
LoadsWhatFits base room bytes answer =
    (file : BeginsWithLoadFile bytes) → HavePlaces base room (table file.value) → answer.number ≡ 0
