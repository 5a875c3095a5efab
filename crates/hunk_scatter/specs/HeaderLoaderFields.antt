-- What the fields of the loader of a header keep of what was read.
use Rattle.std.specs.Prelude.{◌≡◌, ℕ, zero, suc, ◌+◌, ◌*◌, ◌<◌, ◌≤◌, true, false, List, [], ◌∷◌, ◌++◌, length, map, drop, get_or, slice_index, if◌then◌else◌, Option, None, Some, Result, Ok, IfOk, IfErr, OnOk, IsTrue, ◌⊎◌}
use Rattle.hunk_words.specs.Limits.{most_hunks}
use Rattle.hunk_words.specs.Bits.{has_both_bits, size_longs}
use Rattle.hunk_words.specs.Longs.{bytes_of, longs, IsLong}
use Rattle.hunk_words.specs.declared.fault.Fault.{Fault}
use Rattle.hunk_words.specs.declared.reason.Reason.{Reason}
use Rattle.hunk_words.specs.declared.reason.Reason.TheVariants as reasons
use Rattle.hunk_grammar.specs.declared.position.Position.{Position}
use Rattle.hunk_grammar.specs.declared.position.Position.TheVariants as positions
use Rattle.hunk_grammar.specs.Positions.{role_at, step, is_after_header}
use Rattle.hunk_grammar.specs.Roles.{refuse}
use Rattle.hunk_files.specs.declared.row.Row.{Row}
use Rattle.hunk_files.specs.Image.{declared_bytes}
use Rattle.hunk_files.specs.LoadFile.{TableEntry}
use Rattle.hunk_files.specs.FileSteps.{table_entry, AtAttributes, Next, More, open_hunk}
use Rattle.hunk_files.specs.ReaderPosition.{position_of, table_of}
use Rattle.hunk_files.specs.WordsRead.{HasRead}
use Rattle.hunk_scatter.specs.declared.header_state.HeaderState.{HeaderState}
use Rattle.hunk_scatter.specs.LoaderReasons.{is_of_header}
use Rattle.hunk_scatter.specs.HeaderBytes.{IsHeader, IsHeaderTable, header_bytes}
use Rattle.hunk_scatter.specs.HeaderFaults.{IsWithinBudget}
use Rattle.hunk_scatter.specs.LoaderValues.{FeedsFront, HeaderLoaderValue}
use Rattle.hunk_scatter.specs.Rows.{entries_of, row_of}

-- ---- a step

-- the row that a longword completes
abbrev pub adds : Position → ℕ → List TableEntry
adds (positions.SizeWord hunks owed) w = if has_both_bits w then [] else table_entry w 0 ∷ []
adds (positions.Attributes hunks word owed) w = table_entry word w ∷ []
adds _ w = []

-- the bytes that a longword declares
abbrev pub declares : Position → ℕ → ℕ
declares (positions.SizeWord hunks owed) w = 4 * size_longs w
declares _ w = 0

-- the bytes that the size words so far declare
abbrev pub declared_so_far : Next → ℕ
declared_so_far (More (AtAttributes hunks done word owed)) = declared_bytes done + 4 * size_longs word
declared_so_far n = declared_bytes (table_of n)

-- Where the header is whole, its first hunk opens next.
abbrev pub OpensFirst : Next → Type 0
OpensFirst n = is_after_header (position_of n) ≡ true → n ≡ open_hunk (length (table_of n)) [] (table_of n)

-- The longword is accepted by its own test and keeps to the budget, and after it the state is the next.
pub record PassesWord (budget : ℕ) (s : HeaderState) (w : ℕ) (next : HeaderState) : Type 0 where
  pub accepted : refuse (role_at 0 s.position) w ≡ None
  pub within : s.total + declares s.position w ≤ budget
  pub position_is : next.position ≡ step s.position w
  pub total_is : next.total ≡ s.total + declares s.position w

abbrev pub at_start : HeaderState
at_start = record { position = positions.FirstLong; total = 0 }

-- So many longwords pass, of which the first stands at this byte.
abbrev pub PassesWords : ℕ → List ℕ → ℕ → HeaderState → ℕ → HeaderState → Type 0
PassesWords budget bytes at s zero next = s ≡ next
PassesWords budget bytes at s (suc count) next =
    (here : HeaderState)
    × PassesWords budget bytes at s count here
    × (is_after_header here.position ≡ false)
    × PassesWord budget here (get_or (longs (drop (at + 4 * count) bytes)) 0 0) next

-- The first so many entries of the table stand in the longwords, each is one of them, and together they declare so
-- many bytes.
pub data HasShortEntries (ws : List ℕ) : ℕ → ℕ → Type 0 where
  no_entry : HasShortEntries ws 0 0
  one_entry : (count total : ℕ) → HasShortEntries ws count total → 5 + count < length ws
      → has_both_bits (slice_index ws (5 + count)) ≡ false
      → HasShortEntries ws (suc count) (total + 4 * size_longs (slice_index ws (5 + count)))

-- ---- a stop

pub record IsOver (budget : ℕ) (s : HeaderState) (w : ℕ) (reason : Reason) : Type 0 where
  pub reason_is : reason ≡ reasons.Budget
  pub passes : budget < s.total + declares s.position w

pub record LacksRowMemory (budget : ℕ) (s : HeaderState) (w : ℕ) (reason : Reason) : Type 0 where
  pub reason_is : reason ≡ reasons.OutOfMemory
  pub accepted : refuse (role_at 0 s.position) w ≡ None
  pub within : s.total + declares s.position w ≤ budget
  pub row : 0 < length (adds s.position w)

-- The longword is refused by its own test, or by the budget.
abbrev pub RefusesWord : ℕ → HeaderState → ℕ → Reason → Type 0
RefusesWord budget s w reason = (refuse (role_at 0 s.position) w ≡ Some reason) ⊎ IsOver budget s w reason

-- The longword is refused by its own test, by the budget, or since memory ran out.
abbrev pub StopsFor : ℕ → HeaderState → ℕ → Reason → Type 0
StopsFor budget s w reason = RefusesWord budget s w reason ⊎ LacksRowMemory budget s w reason

-- ---- the fields

-- Longwords were read, and none passed the budget; the position, the rows and their sum are those of what was read.
pub record HasReadHeader (budget : ℕ) (rows : List Row) (s : HeaderState) (ws : List ℕ) : Type 0 where
  pub next : Next
  pub read : HasRead ws next
  pub opens_first : OpensFirst next
  pub position_is : position_of next ≡ s.position
  pub table_is : table_of next ≡ entries_of rows
  pub unplaced : rows ≡ map row_of (entries_of rows)
  pub total_is : s.total ≡ declared_so_far next
  pub within : s.total ≤ budget
  pub none_passes : IsWithinBudget budget ws

-- Beside them bytes are pending, none where the header is whole.
pub record HeaderReading (budget : ℕ) (rows : List Row) (s : HeaderState) (pending fed : List ℕ) : Type 0 where
  pub ws : List ℕ
  pub spelled : fed ≡ bytes_of ws ++ pending
  pub few : length pending < 4
  pub whole : is_after_header s.position ≡ true → pending ≡ []
  pub has_read : HasReadHeader budget rows s ws

pub record HeaderLoaderInvariant (budget : ℕ) (rows : List Row) (s : HeaderState) (pending : List ℕ) (count : ℕ) (refused : Option Fault) (fed : List ℕ) : Type 0 where
  pub counted : count ≡ length fed
  pub few_rows : length rows ≤ most_hunks
  pub reading : refused ≡ None → HeaderReading budget rows s pending fed
  pub own_reasons : (f : Fault) → refused ≡ Some f → IsTrue (is_of_header f.reason)
  pub cleared : (f : Fault) → refused ≡ Some f → rows ≡ []

-- What is kept of a header that is whole.
pub record DeclaredInvariant (rows : List Row) (total budget count : ℕ) (fed : List ℕ) : Type 0 where
  pub is_table : IsHeaderTable (entries_of rows)
  pub unplaced : rows ≡ map row_of (entries_of rows)
  pub total_is : total ≡ declared_bytes (entries_of rows)
  pub within : total ≤ budget
  pub counted : count ≡ length fed
  pub header : fed ≡ header_bytes (entries_of rows)

-- Longwords were read, and the next stops the loader.
pub record HeaderStop (budget : ℕ) (bytes : List ℕ) (f : Fault) : Type 0 where
  pub ws : List ℕ
  pub rows : List Row
  pub state : HeaderState
  pub word : ℕ
  pub spelled : bytes ≡ bytes_of (ws ++ word ∷ [])
  pub long : IsLong word
  pub has_read : HasReadHeader budget rows state ws
  pub goes_on : is_after_header state.position ≡ false
  pub place : f.place ≡ 4 * length ws
  pub stops : StopsFor budget state word f.reason

-- The loader is stopped at a longword of what was fed and the piece, one that ends in the piece.
abbrev pub StopsInPiece : ℕ → List ℕ → List ℕ → Fault → Type 0
StopsInPiece budget fed piece f =
    (front rest : List ℕ) × (fed ++ piece ≡ front ++ rest) × (length fed < length front) × HeaderStop budget front f

-- ---- a piece

-- A piece is fed, or the loader stops at a fault that ends in it, and remembers that fault.
pub record FeedsHeaderOrStops (old new : HeaderLoaderValue) (piece : List ℕ) (result : Result ℕ Fault) : Type 0 where
  pub budget : new.budget ≡ old.budget
  pub taken : IfOk result (FeedsFront old.fed piece new.fed)
  pub goes_on : OnOk result (new.refused ≡ None)
  pub complete : IsHeader old.fed → result ≡ Ok 0
  pub stops : IfErr result (StopsInPiece old.budget old.fed piece)
  pub remembers : IfErr result (λ (f : Fault). new.refused ≡ Some f)
