-- A loader in numbers, which a C program keeps and feeds piece by piece.
use Rattle.std.specs.Prelude.{◌≡◌, ℕ, ◌+◌, ◌*◌, ◌/◌, ◌%◌, ◌<◌, ◌≤◌, List, ◌++◌, length, take, replicate, true, IsTrue}
use Rattle.hunk_words.specs.Carriers.{saturated}
use Rattle.hunk_words.specs.Longs.{bytes_of}
use Rattle.hunk_words.specs.declared.fault.Fault.{Fault}
use Rattle.hunk_words.specs.declared.reason.Reason.TheVariants as reasons
use Rattle.hunk_grammar.specs.Positions.{is_done}
use Rattle.hunk_files.specs.Fault.{HasFault}
use Rattle.hunk_files.specs.Image.{declared_bytes, images}
use Rattle.hunk_files.specs.LoadFile.{TableEntry, LoadFileValue, IsLoadFile}
use Rattle.hunk_files.specs.LoadText.{table, text}
use Rattle.hunk_files.specs.declared.row.Row.{Row}
use Rattle.hunk_scatter.specs.HeaderBytes.{IsHeaderTable, header_bytes}
use Rattle.hunk_scatter.specs.LoaderReasons.{is_of_body}
use Rattle.hunk_scatter.specs.LoaderValues.{IsBodyRefusal, told_place}
use Rattle.hunk_scatter.specs.Owing.{FileOwes}
use Rattle.hunk_scatter.specs.Rows.{bases_of, entries_of}
use Rattle.hunk_scatter.specs.Streaming.{FitsStore}
use Rattle.hunk_scatter.specs.declared.stream.Standing.{Standing}
use Rattle.hunk_c.specs.declared.answer.Answer.{Answer}
use Rattle.hunk_c.specs.declared.loader.Loader.{Loader}
use Rattle.hunk_c.specs.Answers.{done, no_room, refused, strange}
use Rattle.hunk_c.specs.Loaders.{Stands, StandsAt, TellsAgain, least_file, loader_at, no_loader, refusing, unused}

-- ---- the begin

-- The entries are a table, its header has this many bytes, and it declares this many.
pub record HasSizes (table : List TableEntry) (header bytes : ℕ) : Type 0 where
  pub is_table : IsHeaderTable table
  pub header_is : header ≡ length (header_bytes table)
  pub bytes_are : bytes ≡ declared_bytes table

-- What the begin of a stream comes to: the loader stands after the header of the rows' table, and the memory is zero;
-- or the memory is too small for what that declares;
-- or it is too large, or the rows are not those of a table whose header has this many bytes.
pub data Begins (rows : List Row) (header : ℕ) (new : Loader) (memory after : List ℕ) (answer : Answer) : Type 0 where
  HasBegun : HasSizes (entries_of rows) header (length memory)
      → Stands rows new after (header_bytes (entries_of rows)) → after ≡ replicate (length memory) 0 → new.reserved ≡ unused
      → answer ≡ done (length rows) header (length memory) → Begins rows header new memory after answer
  LacksRoom : (bytes : ℕ) → HasSizes (entries_of rows) header bytes → length memory < bytes → new ≡ no_loader → after ≡ memory
      → answer ≡ no_room (length rows) header bytes → Begins rows header new memory after answer
  FitsNot : ((bytes : ℕ) → HasSizes (entries_of rows) header bytes → length memory ≤ bytes → ⊥) → new ≡ no_loader → after ≡ memory
      → answer ≡ strange → Begins rows header new memory after answer

-- ---- a piece

-- Of a piece so many bytes are taken: they are fed after those that were fed before, whatever these were. The numbers that
-- stood before, and those that stand then, lie within the places and the memory.
pub record TakesPiece (rows : List Row) (old new : Loader) (memory after piece : List ℕ) (count : ℕ) : Type 0 where
  pub from : Standing
  pub to : Standing
  pub stood : StandsAt old from
  pub fits : FitsStore rows (length memory) from
  pub numbers : new ≡ loader_at to
  pub fits_still : FitsStore rows (length after) to
  pub counted : to.fed ≡ saturated (from.fed + count)
  pub inside : count ≤ length piece
  pub all : count < length piece → is_done to.state.position ≡ true
  pub not_early : is_done to.state.position ≡ true → least_file to.state.hunk ≤ to.fed
  pub takes : (fed : List ℕ) → Stands rows old memory fed → Stands rows new after (fed ++ take count piece)

-- All of it is taken, and the memory stays as it was.
abbrev pub PassesOver : List Row → ℕ → Loader → List ℕ → Loader → Type 0
PassesOver rows total old piece new =
    (memory : List ℕ) → length memory ≡ total → TakesPiece rows old new memory memory piece (length piece)

-- Whatever bytes were fed before, with the piece after them they are refused so, for a reason of a body.
pub record RefusesPiece (rows : List Row) (old : Loader) (memory piece : List ℕ) (f : Fault) : Type 0 where
  pub from : Standing
  pub stood : StandsAt old from
  pub fits : FitsStore rows (length memory) from
  pub own_reason : IsTrue (is_of_body f.reason)
  pub whole_longs : f.place % 4 ≡ 0
  pub refuses : (fed : List ℕ) → Stands rows old memory fed → IsBodyRefusal (fed ++ piece) f

-- No loader stands so, after any bytes.
abbrev pub StandsNowhere : List Row → Loader → List ℕ → Type 0
StandsNowhere rows old memory = (fed : List ℕ) → Stands rows old memory fed → ⊥

-- What the feeding of a piece comes to: it is taken, all of it or up to the end of the file; it is refused;
-- no byte of it is looked at, for an earlier refusal or for numbers that no loader has;
-- or it has refused nothing, and these places and this memory show that no loader stands so.
pub data Feeds (rows : List Row) (old new : Loader) (memory after piece : List ℕ) (answer : Answer) : Type 0 where
  HasTaken : (count : ℕ) → TakesPiece rows old new memory after piece count → answer ≡ done new.hunk new.fed count
      → Feeds rows old new memory after piece answer
  HasRefused : (f : Fault) → RefusesPiece rows old memory piece f → new ≡ refusing old f → answer ≡ refused f
      → Feeds rows old new memory after piece answer
  HadRefused : TellsAgain old answer → new ≡ old → after ≡ memory → Feeds rows old new memory after piece answer
  IsStrange : (at : Standing) → StandsAt old at → StandsNowhere rows old memory → new ≡ old → answer ≡ strange
      → Feeds rows old new memory after piece answer

-- It is refused again, and loader and memory stay as they are.
pub record StaysRefused (l new : Loader) (memory after : List ℕ) (f : Fault) (answer : Answer) : Type 0 where
  pub again : answer ≡ refused f
  pub same_loader : new ≡ l
  pub same_memory : after ≡ memory

-- ---- the end

-- The bytes are a load file with the table of the rows. The memory is its hunks, each as it lies at its row's base,
-- one right after the other; and so it is answered, as a load answers it.
pub record IsStreamed (rows : List Row) (memory fed : List ℕ) (answer : Answer) : Type 0 where
  pub value : LoadFileValue
  pub is_load_file : IsLoadFile value
  pub bytes_are : fed ≡ bytes_of (text value)
  pub table_is : table value ≡ entries_of rows
  pub memory_is : memory ≡ images (bases_of rows) value
  pub answer_is : answer ≡ done (length value) (saturated (length (bytes_of (text value)))) (declared_bytes (table value))

-- The file is whole, whatever rows, memory and bytes the loader was given.
abbrev pub EndsWholly : Loader → Answer → Type 0
EndsWholly l answer = (rows : List Row) (memory fed : List ℕ) → Stands rows l memory fed → IsStreamed rows memory fed answer

-- The bytes end inside the file, and so many are told, whatever rows, memory and bytes the loader was given.
abbrev pub EndsInside : Loader → ℕ → Type 0
EndsInside l told =
    (rows : List Row) (memory fed : List ℕ) → Stands rows l memory fed
    → (at : ℕ) × HasFault fed at reasons.Truncated × (told ≡ told_place at)

-- What the end of a stream comes to: the file is whole, or cut short;
-- or nothing is known of it, for an earlier refusal or for numbers that no loader has.
pub data Ends (l : Loader) (answer : Answer) : Type 0 where
  IsWhole : (at : Standing) → StandsAt l at → answer ≡ done l.hunk l.fed l.start → EndsWholly l answer → Ends l answer
  IsCutShort : (at : Standing) → StandsAt l at → EndsInside l (4 * (l.fed / 4))
      → answer ≡ refused (record { place = 4 * (l.fed / 4); reason = reasons.Truncated }) → Ends l answer
  HasNoEnd : TellsAgain l answer → Ends l answer

-- ---- what is wanted

-- Whatever rows, memory and bytes the loader was given, a file that begins with these bytes still has this many at least.
abbrev pub OwesBytes : Loader → ℕ → Type 0
OwesBytes l owed = (rows : List Row) (memory fed : List ℕ) → Stands rows l memory fed → FileOwes fed owed

-- What a loader wants: what is still to come of the file, nothing where it is whole;
-- or nothing is known of it, for an earlier refusal or for numbers that no loader has.
pub data Wants (l : Loader) (answer : Answer) : Type 0 where
  HasWant : (at : Standing) (owed : ℕ) → StandsAt l at → OwesBytes l owed → answer ≡ done l.hunk l.fed owed → Wants l answer
  HasNoWant : TellsAgain l answer → Wants l answer
