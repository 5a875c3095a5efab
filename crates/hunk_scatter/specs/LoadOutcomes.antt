-- A load from a source.
use Rattle.std.specs.Prelude.{◌≡◌, ℕ, ◌+◌, ◌*◌, ◌/◌, ◌<◌, ◌≤◌, true, false, List, [], ◌++◌, length, map, Some, None, ◌⊎◌, IsTrue, Result, IfErr, MatchResult, IsErrAnd, take}
use Rattle.std.specs.Io.KnownBytes.{Consumes, IsAtEnd}
use Rattle.hunk_words.specs.Carriers.{Supply}
use Rattle.hunk_words.specs.Longs.{bytes_of}
use Rattle.hunk_words.specs.declared.fault.Fault.{Fault}
use Rattle.hunk_words.specs.declared.reason.Reason.{Reason}
use Rattle.hunk_words.specs.declared.reason.Reason.TheVariants as reasons
use Rattle.hunk_files.specs.Fault.{HasFault, HasRefusal, IsTruncated}
use Rattle.hunk_files.specs.Image.{declared_bytes, image}
use Rattle.hunk_files.specs.LoadFile.{TableEntry, LoadFileValue, IsLoadFile}
use Rattle.hunk_files.specs.LoadText.{table, text}
use Rattle.hunk_scatter.specs.LoaderReasons.{is_of_header, is_of_body, is_of_file, is_of_longwords}
use Rattle.hunk_scatter.specs.HeaderBytes.{IsHeaderTable, header_bytes, IsHeaderFront}
use Rattle.hunk_scatter.specs.HeaderFaults.{CompletesRow, ExceedsBudget, KeepsToBudget, IsOverBudget, IsHeaderFault}
use Rattle.hunk_scatter.specs.LoaderValues.{ImageValue, HasNoRefusal}
use Rattle.hunk_scatter.specs.Placing.{Placing, base_at, AreBases, HasBases, IsFirstUnplaced, IsUnplacedFor}
use Rattle.hunk_scatter.specs.Rows.{entries_of, bases_of}
use Rattle.hunk_scatter.specs.declared.loading.Limits.{Limits}

-- ---- what a reader gives

-- It has given these bytes, and no more than the limit.
pub record Gives (old new : Supply) (limit : ℕ) (given : List ℕ) : Type 0 where
  pub consumed : Consumes old.left new.left given
  pub within : length given ≤ limit

abbrev pub GivesAtMost : Supply → Supply → ℕ → Type 0
GivesAtMost old new limit = (given : List ℕ) × Gives old new limit given

-- These bytes, the last of all, are still to be read.
abbrev pub KeepsRest : Supply → List ℕ → Type 0
KeepsRest now rest = (front : List ℕ) × (now.left ≡ Some (front ++ rest))

-- All that the source has left is at hand.
abbrev pub IsAllShown : Supply → List ℕ → Type 0
IsAllShown supply shown = supply.left ≡ Some shown

-- It stays so.
abbrev pub StaysAllShown : Supply → List ℕ → Supply → List ℕ → Type 0
StaysAllShown old shown new after = IsAllShown old shown → IsAllShown new after

-- After these bytes it has given none past the longword at the fault.
abbrev pub TakesNoFurther : Supply → Supply → List ℕ → Fault → Type 0
TakesNoFurther old new before f =
    (piece : List ℕ) × Consumes old.left new.left piece × (length (before ++ piece) ≤ f.place + 4)

-- The table declares more than the budget, or a hunk of it has no base.
abbrev pub IsNotPlaced : Placing → ℕ → List TableEntry → Type 0
IsNotPlaced base budget table =
    (budget < declared_bytes table) ⊎ ((hunk : ℕ) × (hunk < length table) × (base_at base table hunk ≡ None))

-- Where a load file was in front, all that was after it is still to be read.
abbrev pub StopsAfterFile : Supply → Supply → Type 0
StopsAfterFile old new =
    (v : LoadFileValue) (rest : List ℕ) → IsLoadFile v → old.left ≡ Some (bytes_of (text v) ++ rest) → KeepsRest new rest

-- Where the header of a table was in front that can't be placed, all that was after it is.
abbrev pub StopsAfterHeader : Placing → ℕ → Supply → Supply → Type 0
StopsAfterHeader base budget old new =
    (t : List TableEntry) (rest : List ℕ) → IsHeaderTable t → old.left ≡ Some (header_bytes t ++ rest)
    → IsNotPlaced base budget t → KeepsRest new rest

-- A load file is in front that keeps to the limits, and each of its hunks is given a base.
pub record HasFileWithin (base : Placing) (limits : Limits) (old : Supply) : Type 0 where
  pub value : LoadFileValue
  pub rest : List ℕ
  pub is_load_file : IsLoadFile value
  pub split : old.left ≡ Some (bytes_of (text value) ++ rest)
  pub fits : length (bytes_of (text value)) ≤ limits.file_bytes
  pub within : declared_bytes (table value) ≤ limits.budget
  pub bases : HasBases base (table value)

-- A reader that has come to fail is what the answer tells of.
abbrev pub TellsFailure : {T : Type 0} → Supply → Supply → Result T Fault → Type 0
TellsFailure old new result = old.failed ≡ false → new.failed ≡ true → IsErrAnd result (λ f. f.reason ≡ reasons.Read)

-- ---- what is loaded

-- The image is that of the load file: its table, within the budget, the bases that the placer gave, and each segment as it
-- lies there.
pub record IsLoaded (base : Placing) (budget : ℕ) (v : LoadFileValue) (placed : ImageValue) : Type 0 where
  pub is_load_file : IsLoadFile v
  pub table_is : table v ≡ entries_of placed.rows
  pub within : declared_bytes (table v) ≤ budget
  pub bases : AreBases base (table v) (bases_of placed.rows)
  pub segments : placed.segments ≡ map (image (bases_of placed.rows)) v

-- The bytes are a load file, and the image is of it.
abbrev pub IsLoadOf : Placing → ℕ → List ℕ → ImageValue → Type 0
IsLoadOf base budget given placed = (v : LoadFileValue) × IsLoaded base budget v placed × (given ≡ bytes_of (text v))

-- ---- what is answered else

-- No longword of the bytes is refused, none passes the budget, and they are no whole load file.
pub record IsUnfinished (budget : ℕ) (bytes : List ℕ) : Type 0 where
  pub clean : HasNoRefusal bytes
  pub truncated : IsTruncated bytes (4 * (length bytes / 4))
  pub none_passes : KeepsToBudget budget bytes

-- The bytes are the header of a table that keeps to the budget.
pub record IsHeaderWithin (budget : ℕ) (bytes : List ℕ) (table : List TableEntry) : Type 0 where
  pub is_table : IsHeaderTable table
  pub header : bytes ≡ header_bytes table
  pub within : declared_bytes table ≤ budget

-- Memory ran out for a row, at the longword that completes it, or for the store, after the header of a table whose hunks
-- all have a base.
abbrev pub LacksMemoryAt : Placing → ℕ → List ℕ → ℕ → Type 0
LacksMemoryAt base budget given at =
    CompletesRow given at
    ⊎ ((table : List TableEntry) × IsHeaderWithin budget given table × HasBases base table × (at ≡ length given))

-- The fault of a load, by its reason, where the source has given these bytes.
abbrev pub IsLoadFaultBy : Reason → Placing → Limits → Supply → List ℕ → ℕ → Type 0
IsLoadFaultBy reasons.Budget base limits now given at = ExceedsBudget limits.budget given at
IsLoadFaultBy reasons.FileLimit base limits now given at =
    (at ≡ limits.file_bytes) × (length given ≡ limits.file_bytes) × IsUnfinished limits.budget given
IsLoadFaultBy reasons.Read base limits now given at =
    (at ≡ length given) × (now.failed ≡ true) × IsUnfinished limits.budget given
IsLoadFaultBy reasons.Truncated base limits now given at =
    IsAtEnd now.left × IsTruncated given at × IsUnfinished limits.budget given
IsLoadFaultBy (reasons.NoBase hunk) base limits now given at =
    (table : List TableEntry) × IsHeaderWithin limits.budget given table × IsFirstUnplaced base table hunk × (at ≡ length given)
IsLoadFaultBy reasons.OutOfMemory base limits now given at =
    IsHeaderFront given × LacksMemoryAt base limits.budget given at
IsLoadFaultBy reason base limits now given at = HasRefusal given at reason × IsTrue (is_of_longwords reason)

abbrev pub IsLoadFault : Placing → Limits → Supply → List ℕ → Fault → Type 0
IsLoadFault base limits now given f = IsLoadFaultBy f.reason base limits now given f.place

-- Where all that the source had is known, what is a fault of the file is its first.
abbrev pub IsFaultOf : Supply → Fault → Type 0
IsFaultOf old f = (input : List ℕ) → old.left ≡ Some input → IsTrue (is_of_file f.reason) → HasFault input f.place f.reason

-- Where all that it had is known, and it has not failed, the declared bytes pass the budget here, within the limit.
abbrev pub PassesBudget : Limits → Supply → Supply → ℕ → Type 0
PassesBudget limits old new at =
    (input : List ℕ) × (old.left ≡ Some input) × (new.failed ≡ false) × ExceedsBudget limits.budget (take limits.file_bytes input) at

-- What a load comes to: the source has given these bytes, and the image is of them, or there is a fault.
pub record Loads (base : Placing) (limits : Limits) (old new : Supply) (result : Result ImageValue Fault) : Type 0 where
  pub given : List ℕ
  pub gives : Gives old new limits.file_bytes given
  pub outcome : MatchResult result (IsLoadOf base limits.budget given) (IsLoadFault base limits new given)
  pub of_file : IfErr result (IsFaultOf old)

-- ---- by stages

-- No header is in front of more.
abbrev pub GoesPastNoHeader : List ℕ → Type 0
GoesPastNoHeader bytes =
    (table : List TableEntry) (more : List ℕ) → IsHeaderTable table → bytes ≡ header_bytes table ++ more → more ≡ []

-- No load text is in front of more.
abbrev pub GoesPastNoFile : List ℕ → Type 0
GoesPastNoFile bytes = (v : LoadFileValue) (more : List ℕ) → IsLoadFile v → bytes ≡ bytes_of (text v) ++ more → more ≡ []

-- Where this many bytes were given: the limit, a failed read, or the end.
abbrev pub IsReadFault : ℕ → Supply → ℕ → Fault → Type 0
IsReadFault limit now count f =
    ((f.reason ≡ reasons.FileLimit) × (f.place ≡ limit) × (count ≡ limit))
    ⊎ (((f.reason ≡ reasons.Read) × (f.place ≡ count) × (now.failed ≡ true))
    ⊎ ((f.reason ≡ reasons.Truncated) × (f.place ≡ 4 * (count / 4)) × IsAtEnd now.left))

-- The loader of the header has stopped.
pub record StopsInHeader (budget : ℕ) (bytes : List ℕ) (f : Fault) : Type 0 where
  pub fault : IsHeaderFault budget bytes f
  pub over : (at : ℕ) → ExceedsBudget budget bytes at → IsOverBudget at f
  pub own_reasons : IsTrue (is_of_header f.reason)
  pub begins : f.reason ≡ reasons.OutOfMemory → IsHeaderFront bytes

-- The loader of the body has.
pub record StopsInBody (bytes : List ℕ) (f : Fault) : Type 0 where
  pub refusal : HasRefusal bytes f.place f.reason
  pub own_reasons : IsTrue (is_of_body f.reason)

-- The reading has.
pub record StopsShort (limit : ℕ) (now : Supply) (bytes : List ℕ) (f : Fault) : Type 0 where
  pub clean : HasNoRefusal bytes
  pub truncated : IsTruncated bytes (4 * (length bytes / 4))
  pub why : IsReadFault limit now (length bytes) f

abbrev pub IsHeaderStop : Limits → Supply → List ℕ → Fault → Type 0
IsHeaderStop limits now bytes f =
    StopsInHeader limits.budget bytes f ⊎ (StopsShort limits.file_bytes now bytes f × KeepsToBudget limits.budget bytes)

abbrev pub IsBodyStop : ℕ → Supply → List ℕ → Fault → Type 0
IsBodyStop limit now bytes f = StopsInBody bytes f ⊎ StopsShort limit now bytes f

-- Whichever header is in front of more keeps to the budget, and each of its hunks has a base.
abbrev pub KeepsToHeader : Placing → ℕ → List ℕ → Type 0
KeepsToHeader base budget bytes =
    (table : List TableEntry) (more : List ℕ) → IsHeaderTable table → bytes ≡ header_bytes table ++ more
    → (more ≡ []) ⊎ ((declared_bytes table ≤ budget) × HasBases base table)

-- A load stops in the header, between header and body, or in the body.
pub data LoadStop (base : Placing) (limits : Limits) (now : Supply) (given : List ℕ) (f : Fault) : Type 0 where
  InHeader : IsHeaderStop limits now given f → LoadStop base limits now given f
  Between : (table : List TableEntry) → IsHeaderWithin limits.budget given table → IsUnplacedFor base table f.reason
      → f.place ≡ length given → LoadStop base limits now given f
  InBody : (table : List TableEntry) (header more : List ℕ) → IsHeaderWithin limits.budget header table
      → given ≡ header ++ more → IsBodyStop limits.file_bytes now given f
      → LoadStop base limits now given f

-- Where a load ends.
abbrev pub LoadEnds : Placing → Limits → Supply → List ℕ → Result ImageValue Fault → Type 0
LoadEnds base limits now given result =
    MatchResult result (IsLoadOf base limits.budget given) (LoadStop base limits now given)
