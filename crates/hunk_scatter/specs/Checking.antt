-- The check of a body, which keeps no store: where a loader stands with some store.
use Rattle.std.specs.Prelude.{◌≡◌, ℕ, ◌*◌, ◌/◌, ◌<◌, ◌≤◌, false, List, [], ◌++◌, length, take, Result, MatchResult, IfErr, IfOk, IsTrue}
use Rattle.hunk_words.specs.declared.fault.Fault.{Fault}
use Rattle.hunk_words.specs.declared.reason.Reason.{Reason}
use Rattle.hunk_files.specs.Fault.{HasRefusal}
use Rattle.hunk_files.specs.Image.{declared_bytes}
use Rattle.hunk_files.specs.declared.row.Row.{Row}
use Rattle.hunk_grammar.specs.Positions.{is_done}
use Rattle.hunk_grammar.specs.declared.position.Position.{Position}
use Rattle.hunk_scatter.specs.BodyLoaderFields.{IsFed, StandsAfter}
use Rattle.hunk_scatter.specs.BodySteps.{IsInStore}
use Rattle.hunk_scatter.specs.LoaderReasons.{is_of_body}
use Rattle.hunk_scatter.specs.LoaderValues.{IsHunkRefusal}
use Rattle.hunk_scatter.specs.Rows.{entries_of, words_of}
use Rattle.hunk_scatter.specs.StoreContent.{TakesOffsets}
use Rattle.hunk_scatter.specs.Streaming.{IsFedAfter}
use Rattle.hunk_scatter.specs.declared.store.BodyState.{BodyState}
use Rattle.hunk_scatter.specs.declared.stream.Standing.{Standing}

-- A loader with these rows stands so after the bytes, with the store that it has made of them.
abbrev pub IsCheckedTo : List Row → Standing → List ℕ → Type 0
IsCheckedTo rows s fed = (store : List ℕ) × IsFed rows store s fed

-- The same, however many bytes the numbers count.
abbrev pub IsCheckedAfter : List Row → Standing → List ℕ → Type 0
IsCheckedAfter rows s fed = (store : List ℕ) × IsFedAfter rows store s fed

-- These longwords were read.
abbrev pub IsReadTo : List Row → BodyState → List ℕ → Type 0
IsReadTo rows state fed = (store : List ℕ) × StandsAfter rows store state [] fed

-- ---- longwords of a piece

-- The state is that of an open hunk whose segment lies among those that the rows declare.
abbrev pub IsOpenIn : List Row → BodyState → Type 0
IsOpenIn rows state = IsInStore (words_of rows) (declared_bytes (entries_of rows)) state

-- It is at this position, and a longword lies whole in the piece.
pub record IsReadyTo (rows : List Row) (state : BodyState) (position : Position) (piece : List ℕ) : Type 0 where
  pub position_is : position ≡ state.position
  pub is_open : IsOpenIn rows state
  pub whole_long : 4 ≤ length piece

-- Offsets of a list are passed, none of them refused; one at least is still owed.
abbrev pub PassesOffsets : List ℕ → List ℕ → BodyState → List ℕ → BodyState → Type 0
PassesOffsets sizes bases state ws next =
    (store : List ℕ) → (after : List ℕ) × TakesOffsets sizes bases state ws store next after

-- This many bytes of the piece were taken, one at least, and are read.
pub record ChecksBytes (rows : List Row) (state : BodyState) (piece : List ℕ) (next : BodyState) (n : ℕ) : Type 0 where
  pub some : 0 < n
  pub inside : n ≤ length piece
  pub reads : (fed : List ℕ) → IsReadTo rows state fed → IsReadTo rows next (fed ++ take n piece)

-- The piece is refused at its first longword, and the state stays.
pub record RefusesAtFront (rows : List Row) (state : BodyState) (piece : List ℕ) (next : BodyState) (reason : Reason) : Type 0 where
  pub refuses : (fed : List ℕ) → IsReadTo rows state fed → HasRefusal (fed ++ piece) (length fed) reason
  pub own_reasons : IsTrue (is_of_body reason)
  pub same : next ≡ state

abbrev pub ChecksFront : List Row → BodyState → List ℕ → BodyState → Result ℕ Reason → Type 0
ChecksFront rows state piece next result =
    MatchResult result (ChecksBytes rows state piece next) (RefusesAtFront rows state piece next)

-- ---- a part of a piece

-- The file is not whole, and there is a byte to take.
pub record MayCheck (rows : List Row) (at : Standing) (piece : List ℕ) : Type 0 where
  pub fed : List ℕ
  pub checked : IsCheckedAfter rows at fed
  pub goes_on : is_done at.state.position ≡ false
  pub nonempty : 0 < length piece

-- This many bytes of the piece were taken, one at least.
pub record PassesBytes (rows : List Row) (at : Standing) (piece : List ℕ) (to : Standing) (n : ℕ) : Type 0 where
  pub some : 0 < n
  pub inside : n ≤ length piece
  pub takes : (fed : List ℕ) → IsCheckedAfter rows at fed → IsCheckedAfter rows to (fed ++ take n piece)

-- The longword is refused that the first byte of the piece is of, and the state stays.
pub record StopsBytes (rows : List Row) (at : Standing) (piece : List ℕ) (to : Standing) (reason : Reason) : Type 0 where
  pub refuses : (fed : List ℕ) → IsCheckedAfter rows at fed → HasRefusal (fed ++ piece) (4 * (length fed / 4)) reason
  pub own_reasons : IsTrue (is_of_body reason)
  pub same : to.state ≡ at.state

-- A part of the piece is taken, or none is. The bytes are not counted.
pub record ChecksPart (rows : List Row) (at : Standing) (piece : List ℕ) (to : Standing) (result : Result ℕ Reason) : Type 0 where
  pub takes : IfOk result (PassesBytes rows at piece to)
  pub refuses : IfErr result (StopsBytes rows at piece to)
  pub uncounted : to.fed ≡ at.fed

-- ---- a piece

-- Of a piece after these bytes a first part was taken, and after both a loader stands so. Or a longword of this hunk is
-- refused.
abbrev pub ChecksOn : List Row → Standing → List ℕ → List ℕ → Result ℕ Fault → Type 0
ChecksOn rows to fed piece result =
    MatchResult result (λ n. IsCheckedTo rows to (fed ++ take n piece)) (IsHunkRefusal (fed ++ piece) to.state.hunk)
