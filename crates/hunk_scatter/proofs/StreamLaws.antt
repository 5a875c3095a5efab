-- A loader of numbers.
use Rattle.std.proofs.Common.{rules, ◌≡◌, ℕ, ◌-◌, ◌*◌, ◌≤◌, ◌<◌, Bool, true, false, List, [], ◌∷◌, ◌++◌, length, get_or, take, refl, sym, arith, length-append, Err, None}
use Rattle.std.proofs.lemmas.List.{length-map}
use Rattle.hunk_files.specs.{declared.row.Row.Row, FileSteps.{HunkSoFar, Progress, More}, ReaderPosition.{IsAfterHeader, open_table, table_of}}
use Rattle.hunk_words.specs.{declared.pending.Pending.Pending, PendingBytes.pending_of}
use Rattle.hunk_grammar.specs.{declared.position.Position.Position, Positions.{is_done, is_between_hunks, least_longs}}
use Rattle.hunk_grammar.specs.declared.position.Position.TheVariants as positions
use Rattle.hunk_scatter.specs.{BodyReader.state_of, BodySteps.{IsInStore, targets_at}, Owing.FileOwes, Rows.{entries_of, words_of}, declared.store.BodyState.BodyState}
use Rattle.hunk_scatter.specs.{declared.stream.Standing.Standing, BodyLoaderFields.StandsAfter}
use Rattle.hunk_scatter.specs.Streaming.{FitsStore, IsFed, IsWithin, EndsLoading, IsFedAfter, TakesPart}
use Rattle.hunk_scatter.proofs.{BodyFields.{gone, in_room, image_of, fed_clean, fed_truncated, owes_file}, Forget.before_is}
use Rattle.hunk_files.proofs.{walk.FileProgress.{OpenFits, ProgressFits}, walk.Reading.reads}
use Rattle.hunk_words.proofs.PendingLaws.{pending_few}

pub going_on : (p : Position) → is_between_hunks p ≡ false → is_done p ≡ false
going_on p e = search rules

pub open_unless_done : (p : Position) → (p ≡ positions.Done → ⊥) → is_done p ≡ false
open_unless_done p f = search rules

-- ---- numbers of a loader

pub within_store : (rows : List Row) (store : List ℕ) (s : Standing) (fed : List ℕ) → IsFed rows store s fed → IsWithin rows (length store) s
within_store rows store s fed h = record { few = pending_few s.pending h.stands.few; in_store = λ e. in_room rows store s fed h (going_on s.state.position e) }

table_hunks : (rows : List Row) (o : HunkSoFar) → OpenFits o → open_table o ≡ entries_of rows → o.hunks ≡ length rows
table_hunks rows o f t = search (rules, length-append, length-map)

-- Its rows are the hunks of the file.
open_hunks : (rows : List Row) (p : Progress) (state : BodyState) → IsAfterHeader (More p) → ProgressFits p → table_of (More p) ≡ entries_of rows → state_of (More p) ≡ state → targets_at state.position ≡ length rows
open_hunks rows p state b f t e = search (rules, table_hunks)

-- Whole, they are all of the store.
whole_hunks : (rows : List Row) (store : List ℕ) (s : Standing) (fed : List ℕ) → IsFed rows store s fed → is_done s.state.position ≡ true → (s.state.hunk ≡ length rows) × (s.state.start ≡ length store)
whole_hunks rows store s fed h done = search (rules, length-map, before_is)

pub fits_store : (rows : List Row) (store : List ℕ) (s : Standing) (fed : List ℕ) → IsFed rows store s fed → FitsStore rows (length store) s
fits_store rows store s fed h = record {
  few = pending_few s.pending h.stands.few;
  in_store = λ more. in_room rows store s fed h more;
  hunks = λ more. let g = gone rows store s fed h more in open_hunks rows g.at s.state g.in_body (reads g.read).0 g.table_is g.state_is;
  whole = λ done. whole_hunks rows store s fed h done;
}

-- ---- steps

-- Of numbers it does not matter how many bytes they count, as long as a loader counts them.
pub any_count : (rows : List Row) (store : List ℕ) (s : Standing) (fed : List ℕ) → IsFed rows store s fed → IsFedAfter rows store s fed
any_count rows store s fed h = record { counted = refl; hunks = h.hunks; size = h.size; stands = h.stands }

-- After more bytes that were read.
pub stands_more : (rows : List Row) (store store2 : List ℕ) (at : Standing) (state : BodyState) (pending : Pending) (fed bytes : List ℕ) → IsFedAfter rows store at fed → length store2 ≡ length store →
    StandsAfter rows store2 state (pending_of pending) (fed ++ bytes) → IsFedAfter rows store2 (record { state = state; fed = at.fed; pending = pending }) (fed ++ bytes)
stands_more rows store store2 at state pending fed bytes h same r = search rules

-- Numbers that lead out of the rows or the store are no loader's.
pub strange : (rows : List Row) (store : List ℕ) (at : Standing) (piece : List ℕ) → is_done at.state.position ≡ false → (IsInStore (words_of rows) (length store) at.state → ⊥) →
    TakesPart rows store at piece store at (Err None)
strange rows store at piece more outside = record {
  takes = tt;
  refuses = record { refuses = λ fed h. absurd (outside (in_room _ _ _ fed h more)); own_reasons = tt; same = refl };
  uncounted = refl;
}

pub first_byte : (piece : List ℕ) → 0 < length piece → get_or piece 0 0 ∷ [] ≡ take 1 piece
first_byte piece h = search rules

-- ---- the end

pub ends : (s : Standing) (b : Bool) → b ≡ is_done s.state.position → EndsLoading s b
ends s true e = λ rows store fed h. image_of rows store s fed h (sym e)
ends s false e = λ rows store fed h. (fed_clean rows store s fed h, fed_truncated rows store s fed h (sym e))

-- ---- what is owed

pub pending_counted : (p : Pending) → length (pending_of p) < 4 → length (pending_of p) ≡ p.count
pending_counted p h = grind arith

-- A loader has no more bytes of a longword than that has; where the file is whole, it has none.
module _ (rows : List Row) (store : List ℕ) (s : Standing) (fed : List ℕ) (h : IsFed rows store s fed) (longs : ℕ) (least : longs ≡ least_longs s.state.position) (some : is_done s.state.position ≡ false → 0 < longs) where
  pending_room : s.pending.count ≤ 4 * longs
  pending_room = search rules

  pub still_owes : FileOwes fed (4 * longs - s.pending.count)
  still_owes = owes_file rows store s fed h (4 * longs - s.pending.count) (omega (arith, least, pending_room, pending_counted s.pending h.stands.few))
