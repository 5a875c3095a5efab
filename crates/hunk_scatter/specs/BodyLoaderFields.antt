-- What the fields of the loader of a body keep.
use Rattle.std.specs.Prelude.{◌≡◌, ℕ, ◌<◌, ◌≤◌, List, [], ◌++◌, length, take, Option, None, Some, Result, IfOk, IfErr, MatchOption, IsTrue}
use Rattle.hunk_words.specs.Carriers.{saturated}
use Rattle.hunk_words.specs.Limits.{most_hunks}
use Rattle.hunk_words.specs.Longs.{bytes_of}
use Rattle.hunk_words.specs.declared.fault.Fault.{Fault}
use Rattle.hunk_words.specs.declared.reason.Reason.{Reason}
use Rattle.hunk_files.specs.Fault.{HasRefusal}
use Rattle.hunk_files.specs.Image.{declared_bytes}
use Rattle.hunk_files.specs.FileSteps.{Next, More, Finished}
use Rattle.hunk_files.specs.WordsRead.{HasRead}
use Rattle.hunk_files.specs.declared.row.Row.{Row}
use Rattle.hunk_grammar.specs.declared.position.Position.{Position}
use Rattle.hunk_scatter.specs.declared.store.BodyState.{BodyState}
use Rattle.hunk_scatter.specs.LoaderReasons.{is_of_body}
use Rattle.hunk_scatter.specs.StoreContent.{StoreHolds}
use Rattle.hunk_scatter.specs.BodySteps.{IsInStore, StaysInStore}
use Rattle.hunk_scatter.specs.Rows.{entries_of, words_of, bases_of}
use Rattle.hunk_scatter.specs.BodyReader.{state_of}
use Rattle.hunk_scatter.specs.LoadOutcomes.{GoesPastNoFile}
use Rattle.hunk_scatter.specs.LoaderValues.{BodyLoaderValue, FeedsFront, IsWholeFile, IsHunkRefusal}
use Rattle.hunk_words.specs.PendingBytes.{pending_of}
use Rattle.hunk_scatter.specs.declared.stream.Standing.{Standing}
use Rattle.hunk_files.specs.ReaderPosition.{IsAfterHeader, table_of}

-- where the file is whole no byte is pending
abbrev pub EndsWhole : Next → List ℕ → Type 0
EndsWhole (More p) pending = Unit {0}
EndsWhole (Finished v) pending = pending ≡ []

-- A loader stands after these bytes: longwords were read and bytes are pending; the numbers and the store are those of
-- what was read.
pub record StandsAfter (rows : List Row) (store : List ℕ) (state : BodyState) (pending fed : List ℕ) : Type 0 where
  pub ws : List ℕ
  pub next : Next
  pub spelled : fed ≡ bytes_of ws ++ pending
  pub few : length pending < 4
  pub read : HasRead ws next
  pub after : IsAfterHeader next
  pub table_is : table_of next ≡ entries_of rows
  pub state_is : state_of next ≡ state
  pub holds : StoreHolds (bases_of rows) next store
  pub whole : EndsWhole next pending

-- A loader with these rows stands so after the bytes, header and body joined, and has made this store of them.
pub record IsFed (rows : List Row) (store : List ℕ) (s : Standing) (fed : List ℕ) : Type 0 where
  pub counted : s.fed ≡ saturated (length fed)
  pub hunks : length rows ≤ most_hunks
  pub size : length store ≡ declared_bytes (entries_of rows)
  pub stands : StandsAfter rows store s.state (pending_of s.pending) fed

pub record BodyLoaderInvariant (rows : List Row) (store : List ℕ) (s : Standing) (refused : Option Fault) (fed : List ℕ) : Type 0 where
  pub counted : s.fed ≡ saturated (length fed)
  pub hunks : length rows ≤ most_hunks
  pub size : length store ≡ declared_bytes (entries_of rows)
  pub reading : refused ≡ None → IsFed rows store s fed
  pub own_reasons : (f : Fault) → refused ≡ Some f → IsTrue (is_of_body f.reason)

-- ---- longwords of a piece, whatever was fed before

-- Where a loader stands after bytes, with its store, it stands then after these bytes as well.
abbrev pub ReadsOn : List Row → List ℕ → BodyState → List ℕ → List ℕ → BodyState → Type 0
ReadsOn rows store state bytes after next =
    (fed : List ℕ) → StandsAfter rows store state [] fed → StandsAfter rows after next [] (fed ++ bytes)

-- Where a loader stands after bytes, the longword is refused that the piece begins with.
abbrev pub RefusesFirstLong : List Row → List ℕ → BodyState → List ℕ → Reason → Type 0
RefusesFirstLong rows store state piece reason =
    (fed : List ℕ) → StandsAfter rows store state [] fed → HasRefusal (fed ++ piece) (length fed) reason

-- The state is at this position, its segment lies in the store, and a longword lies whole in the piece.
pub record ReadyAt (rows : List Row) (store : List ℕ) (state : BodyState) (position : Position) (piece : List ℕ) : Type 0 where
  pub position_is : position ≡ state.position
  pub in_store : IsInStore (words_of rows) (length store) state
  pub whole_long : 4 ≤ length piece

-- This many bytes of the piece were taken, one at least, and are read.
pub record TakesFront (rows : List Row) (store : List ℕ) (state : BodyState) (piece after : List ℕ) (next : BodyState) (n : ℕ) : Type 0 where
  pub some : 0 < n
  pub inside : n ≤ length piece
  pub reads : ReadsOn rows store state (take n piece) after next
  pub stays : StaysInStore (words_of rows) (length after) next

-- The piece is refused at its first longword, and the state stays.
pub record RefusesFront (rows : List Row) (store : List ℕ) (state : BodyState) (piece : List ℕ) (next : BodyState) (reason : Reason) : Type 0 where
  pub refuses : RefusesFirstLong rows store state piece reason
  pub own_reasons : IsTrue (is_of_body reason)
  pub same : next ≡ state

-- A front of the piece is taken, or the piece is refused at its first longword.
pub record TakesOrRefuses (rows : List Row) (store : List ℕ) (state : BodyState) (piece after : List ℕ) (next : BodyState) (result : Result ℕ Reason) : Type 0 where
  pub takes : IfOk result (TakesFront rows store state piece after next)
  pub refuses : IfErr result (RefusesFront rows store state piece next)

-- ---- a piece

-- This many bytes of the piece are consumed, all of them unless the file is whole then.
pub record FeedsPiece (rows : List Row) (fed piece after : List ℕ) (n : ℕ) : Type 0 where
  pub taken : FeedsFront fed piece after n
  pub all : n < length piece → IsWholeFile rows after
  pub inside_file : GoesPastNoFile after

-- The piece is consumed, or the loader keeps why it is refused.
pub record FeedsOrRefuses (old : BodyLoaderValue) (piece : List ℕ) (new : BodyLoaderValue) (n : ℕ) : Type 0 where
  pub rows : new.rows ≡ old.rows
  pub feeds : MatchOption new.refused (FeedsPiece new.rows old.fed piece new.fed n) (λ f. IsHunkRefusal (old.fed ++ piece) new.hunk f × IsTrue (is_of_body f.reason) × (new.fed ≡ old.fed))
