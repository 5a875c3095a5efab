-- A loader in memory that is its caller's: rows, a store, and numbers.
use Rattle.std.specs.Prelude.{◌≡◌, ℕ, ◌*◌, ◌/◌, ◌%◌, ◌<◌, ◌≤◌, Bool, true, false, List, ◌++◌, length, take, Option, None, Some, IfSome, Result, Ok, Err, MatchResult, IfOk, IfErr, IsTrue, ⊤}
use Rattle.hunk_words.specs.Carriers.{saturated}
use Rattle.hunk_words.specs.declared.reason.Reason.{Reason}
use Rattle.hunk_files.specs.Fault.{HasRefusal, IsTruncated}
use Rattle.hunk_files.specs.Image.{declared_bytes}
use Rattle.hunk_files.specs.declared.row.Row.{Row}
pub use Rattle.hunk_scatter.specs.BodyLoaderFields.{IsFed}
use Rattle.hunk_grammar.specs.Positions.{is_done}
use Rattle.hunk_scatter.specs.BodySteps.{IsInStore, StaysInStore, targets_at}
use Rattle.hunk_scatter.specs.HeaderBytes.{IsHeaderTable, header_bytes}
use Rattle.hunk_scatter.specs.LoaderReasons.{is_of_body}
use Rattle.hunk_scatter.specs.LoaderValues.{IsImageOf, HasNoRefusal, IsBodyRefusal, IsHunkRefusal, segments_in}
use Rattle.hunk_scatter.specs.Owing.{FileOwes}
use Rattle.hunk_scatter.specs.Rows.{entries_of, words_of}
use Rattle.hunk_scatter.specs.declared.stream.Standing.{Standing}
use Rattle.hunk_scatter.specs.declared.stream.Stop.{Stop}
use Rattle.hunk_scatter.specs.declared.stream.Stop.TheVariants as stops

-- A loader that stood after bytes stops for a refusal alone.
abbrev pub StopsAt : List ℕ → Stop → Type 0
StopsAt bytes (stops.Refused f) = IsBodyRefusal bytes f
StopsAt bytes stops.Strange = ⊥

-- It stops for that of a longword of this hunk.
abbrev pub StopsInHunk : List ℕ → ℕ → Stop → Type 0
StopsInHunk bytes hunk (stops.Refused f) = IsHunkRefusal bytes hunk f
StopsInHunk bytes hunk stops.Strange = ⊥

-- A refusal is for a reason of a body.
abbrev pub StopsForBody : Stop → Type 0
StopsForBody (stops.Refused f) = IsTrue (is_of_body f.reason)
StopsForBody stops.Strange = ⊤

-- A refusal is at the first byte of a longword.
abbrev pub StopsAtLong : Stop → Type 0
StopsAtLong (stops.Refused f) = f.place % 4 ≡ 0
StopsAtLong stops.Strange = ⊤

-- This holds, unless the numbers do not fit.
abbrev pub UnlessStrange : Result (Standing × ℕ) Stop → Type 0 → Type 0
UnlessStrange (Ok r) holds = holds
UnlessStrange (Err (stops.Refused f)) holds = holds
UnlessStrange (Err stops.Strange) holds = ⊤

-- Of a piece after these bytes a first part was taken: after both a loader stands so, with this store. Or it stops.
abbrev pub TakesOn : List Row → List ℕ → List ℕ → List ℕ → Result (Standing × ℕ) Stop → Type 0
TakesOn rows store fed piece result =
    MatchResult result (λ r. IsFed rows store r.0 (fed ++ take r.1 piece)) (StopsAt (fed ++ piece))

-- The same, where the numbers that a loader has then are said apart. Where it stops, they have the hunk.
abbrev pub StandsOn : List Row → List ℕ → Standing → List ℕ → List ℕ → Result ℕ Stop → Type 0
StandsOn rows store to fed piece result =
    MatchResult result (λ n. IsFed rows store to (fed ++ take n piece)) (StopsInHunk (fed ++ piece) to.state.hunk)

-- The numbers lead out of neither the rows nor a store of this many bytes, as far as no hunk opens.
pub record IsWithin (rows : List Row) (total : ℕ) (s : Standing) : Type 0 where
  pub few : s.pending.count < 4
  pub in_store : StaysInStore (words_of rows) total s.state

-- So a loader with these rows and a store of this many bytes may stand: the rows are the hunks of the file, and the open
-- one lies in the store; or the file is whole, and the store ends where it does.
pub record FitsStore (rows : List Row) (total : ℕ) (s : Standing) : Type 0 where
  pub few : s.pending.count < 4
  pub in_store : is_done s.state.position ≡ false → IsInStore (words_of rows) total s.state
  pub hunks : is_done s.state.position ≡ false → targets_at s.state.position ≡ length rows
  pub whole : is_done s.state.position ≡ true → (s.state.hunk ≡ length rows) × (s.state.start ≡ total)

-- The numbers lead out of nothing, the file is not whole, and there is a byte to take.
pub record MayTake (rows : List Row) (total : ℕ) (at : Standing) (piece : List ℕ) : Type 0 where
  pub within : IsWithin rows total at
  pub goes_on : is_done at.state.position ≡ false
  pub nonempty : 0 < length piece

-- A loader stands so after the bytes, however many of them the numbers count.
abbrev pub IsFedAfter : List Row → List ℕ → Standing → List ℕ → Type 0
IsFedAfter rows store s fed = IsFed rows store (record { state = s.state; fed = saturated (length fed); pending = s.pending }) fed

-- This many bytes of the piece were taken, one at least.
pub record TakesBytes (rows : List Row) (store : List ℕ) (at : Standing) (piece after : List ℕ) (to : Standing) (n : ℕ) : Type 0 where
  pub some : 0 < n
  pub inside : n ≤ length piece
  pub within : IsWithin rows (length after) to
  pub takes : (fed : List ℕ) → IsFedAfter rows store at fed → IsFedAfter rows after to (fed ++ take n piece)

-- The longword is refused that the first byte of the piece is of, for this reason; where none is told, no loader stood so.
abbrev pub RefusesLong : List ℕ → List ℕ → Option Reason → Type 0
RefusesLong fed piece (Some reason) = HasRefusal (fed ++ piece) (4 * (length fed / 4)) reason
RefusesLong fed piece None = ⊥

-- No byte of the piece is taken, and the state stays.
pub record RefusesPart (rows : List Row) (store : List ℕ) (at : Standing) (piece : List ℕ) (to : Standing) (why : Option Reason) : Type 0 where
  pub refuses : (fed : List ℕ) → IsFedAfter rows store at fed → RefusesLong fed piece why
  pub own_reasons : IfSome why (λ reason. IsTrue (is_of_body reason))
  pub same : to.state ≡ at.state

-- A part of the piece is taken, or none is. The bytes are not counted.
pub record TakesPart (rows : List Row) (store : List ℕ) (at : Standing) (piece after : List ℕ) (to : Standing) (result : Result ℕ (Option Reason)) : Type 0 where
  pub takes : IfOk result (TakesBytes rows store at piece after to)
  pub refuses : IfErr result (RefusesPart rows store at piece to)
  pub uncounted : to.fed ≡ at.fed

-- Where the rows are those of a table, its header has this many bytes, and it declares as many as there is room for: after
-- that header a loader stands so.
abbrev pub BeginsLoading : List Row → ℕ → ℕ → List ℕ → Standing → Type 0
BeginsLoading rows header room store s =
    IsHeaderTable (entries_of rows) → header ≡ length (header_bytes (entries_of rows))
    → room ≡ declared_bytes (entries_of rows) → IsFed rows store s (header_bytes (entries_of rows))

-- Where a loader stands so after bytes: the file is whole, and the store is its segments; or the bytes are cut short, and
-- none of them is refused.
abbrev pub EndsLoading : Standing → Bool → Type 0
EndsLoading s true =
    (rows : List Row) (store fed : List ℕ) → IsFed rows store s fed
    → IsImageOf rows fed (segments_in (words_of rows) store)
EndsLoading s false =
    (rows : List Row) (store fed : List ℕ) → IsFed rows store s fed
    → HasNoRefusal fed × IsTruncated fed (4 * (length fed / 4))

-- Where a loader stands so after bytes, a file that begins with them still has this many at least.
abbrev pub StillOwes : Standing → ℕ → Type 0
StillOwes s owed = (rows : List Row) (store fed : List ℕ) → IsFed rows store s fed → FileOwes fed owed
