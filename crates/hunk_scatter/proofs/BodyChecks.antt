-- What the check of a body takes of a piece, whatever store it would have made.
use Rattle.std.proofs.Common.{rules, ◌≡◌, ℕ, ◌+◌, ◌*◌, ◌^◌, ◌/◌, ◌%◌, ◌<◌, ◌≤◌, false, List, [], ◌∷◌, ◌++◌, length, take, drop, get_or, get_or-drop, None, Some, Result, Ok, Err, refl, sym, ap, subst, ◌∙◌, arith, append_assoc, length-append, length-drop, length-take}
use Rattle.std.proofs.Math.Seq.{take-add}
use Rattle.std.proofs.lemmas.List.{length-map, length-replicate}
use Rattle.hunk_words.specs.{Longs.{bytes_of, longs, IsBytes, IsLong}, PendingBytes.pending_of}
use Rattle.hunk_words.specs.{declared.pending.Pending.Pending, declared.reason.Reason.Reason}
use Rattle.hunk_blocks.specs.BlockSteps.{BlockNext}
use Rattle.hunk_words.proofs.LongLaws.{length-bytes_of}
use Rattle.hunk_files.specs.{Fault.HasRefusal, FileSteps.{HunkSoFar, Next, More, Finished, AtBlock, InBody}, Image.{declared_bytes, images}, LoadFile.{TableEntry}}
use Rattle.hunk_files.specs.{LoadText.table, OpenSegment.segment_so_far, ReaderPosition.{open_table, table_of}, Tables.row_entry, declared.row.Row.Row}
use Rattle.hunk_grammar.specs.{Positions.{is_done, run}, declared.position.Position.Position}
use Rattle.hunk_scatter.specs.{BodyLoaderFields.{StandsAfter}, BodySteps.{longs_at, refusal, step_body, pass_body, IsInStore}}
use Rattle.hunk_scatter.specs.Checking.{ChecksFront, ChecksPart, IsCheckedAfter, IsCheckedTo, IsOpenIn, IsReadTo, IsReadyTo, PassesOffsets}
use Rattle.hunk_scatter.specs.{Rows.{entries_of, words_of, bases_of}, StoreContent.{Holds, StoreHolds, stored_long, stored_run, zeros}}
use Rattle.hunk_scatter.specs.{declared.store.BodyState.BodyState, declared.stream.Standing.Standing}
use Rattle.hunk_scatter.proofs.{DeclaredBytes.{declared-append, declared-cons, declared_limit}, Forget.before_is, OneByte.{going, room, stands_as}}
use Rattle.hunk_scatter.proofs.{BodyFields.in_room, Refusing.refused_in_body, Runs.read_offsets, Scatter.length-images, Starting.zeros_are, StreamLaws.any_count}
use Rattle.hunk_scatter.proofs.WholeLongs.{read_at, room_at, run_taken, word_refused, word_taken}

-- ---- a store is as long as the table declares

zeros_length : (t : List TableEntry) → length (zeros t) ≡ declared_bytes t
zeros_length t = ap length (sym (zeros_are t)) ∙ length-replicate (declared_bytes t) 0

open_length : (bases : List ℕ) (o : HunkSoFar) (n : BlockNext) (store : List ℕ) → Holds bases o n store → length store ≡ declared_bytes (open_table o)
open_length bases o n store h =
    omega (
      arith,
      ap length h.store_is,
      length-append (images bases o.finished) (segment_so_far bases o n ++ zeros o.ahead),
      length-append (segment_so_far bases o n) (zeros o.ahead),
      length-images bases o.finished h.front,
      h.segment,
      zeros_length o.ahead,
      declared-append (table o.finished) (o.entry ∷ o.ahead),
      declared-cons o.entry o.ahead,
      before_is o.finished,
    )

held_length : (bases : List ℕ) (n : Next) (store : List ℕ) → StoreHolds bases n store → length store ≡ declared_bytes (table_of n)
held_length bases (More (AtBlock o)) store h = open_length bases o _ store h
held_length bases (More (InBody o word x)) store h = open_length bases o _ store h
held_length bases (Finished v) store h = omega (arith, ap length h.1, length-images bases v h.0, before_is v)
held_length bases _ store h = absurd h

module _ (rows : List Row) (store : List ℕ) (state : BodyState) (pending fed : List ℕ) (r : StandsAfter rows store state pending fed) where
  stands_length : length store ≡ declared_bytes (entries_of rows)
  stands_length = held_length (bases_of rows) r.next store r.holds ∙ ap declared_bytes r.table_is

  -- The open hunk lies in the store.
  stands_room : is_done state.position ≡ false → IsInStore (words_of rows) (length store) state
  stands_room more = room rows store state pending fed (going rows store state pending fed r more) stands_length

-- So many bytes are counted.
pub start_fits : (rows : List Row) (state : BodyState) → IsInStore (words_of rows) (declared_bytes (entries_of rows)) state → state.start + 4 * longs_at (words_of rows) state.hunk < 2 ^ 64
start_fits rows state i = omega (arith, i.segment, i.hunks, declared_limit (entries_of rows), length-map rows row_entry, length-map rows (λ (r : Row). r.word))

-- ---- longwords of a piece

-- where a run goes on the file does
runs_on : (p : Position) → 0 < run p → is_done p ≡ false
runs_on p some = search rules

drop_bytes : (bytes : List ℕ) (n : ℕ) → IsBytes bytes → IsBytes (drop n bytes)
drop_bytes bytes n are k = omega (arith, get_or-drop n bytes k 0, are (n + k))

module _ (rows : List Row) (state : BodyState) (position : Position) (piece : List ℕ) (ready : IsReadyTo rows state position piece) (more : is_done position ≡ false) (are : IsBytes piece) where
  abbrev here : BodyState
  here = record { hunk = state.hunk; start = state.start; position = position }

  here_in : IsInStore (words_of rows) (declared_bytes (entries_of rows)) here
  here_in = room_at (words_of rows) (declared_bytes (entries_of rows)) state position ready.position_is ready.is_open

  here_at : (fed : List ℕ) (r : IsReadTo rows state fed) → StandsAfter rows r.0 here [] fed
  here_at fed r = read_at rows r.0 state position fed ready.position_is r.1

  -- the first
  module _ (w : ℕ) (is : IsLong w) (first : w ≡ get_or (longs piece) 0 0) where
    pub word_passes : refusal (words_of rows) here w ≡ None → (next : BodyState) → next ≡ step_body (words_of rows) here w → ChecksFront rows state piece next (Ok 4)
    word_passes ok next steps = record {
      some = omega arith;
      inside = ready.whole_long;
      reads = λ fed r. (
        stored_long (bases_of rows) here w r.0,
        stands_as _ _ _ _ _ _ _ _ refl steps refl (word_taken rows r.0 here fed (here_at fed r) more piece are ready.whole_long w is first ok),
      );
    }

    pub word_stops : (reason : Reason) → refusal (words_of rows) here w ≡ Some reason → ChecksFront rows state piece state (Err reason)
    word_stops reason no-pass = record {
      refuses = λ fed r. word_refused rows r.0 here fed (here_at fed r) more piece are ready.whole_long w is first reason no-pass;
      own_reasons = refused_in_body (words_of rows) (declared_bytes (entries_of rows)) here w reason here_in no-pass;
      same = refl;
    }

  -- those of a run
  pub run_passes : (n : ℕ) → 0 < n → n ≤ length piece → n % 4 ≡ 0 → n ≤ 4 * run position → (next : BodyState) → next ≡ pass_body here (n / 4) → ChecksFront rows state piece next (Ok n)
  run_passes n some inside fours fits next steps =
      let count : length (take n piece) / 4 ≡ n / 4 = omega (arith, length-take n piece, inside) in
      record {
        some = some;
        inside = inside;
        reads = λ fed r. (
          stored_run here (take n piece) r.0,
          stands_as _ _ _ _ _ _ _ _ refl (steps ∙ ap (λ (k : ℕ). pass_body here k) (sym count)) refl
              (run_taken rows r.0 here fed (here_at fed r) (stands_room rows r.0 here [] fed (here_at fed r) more) piece n are inside fours some fits),
        );
      }

  -- the first, and those of the run that it begins
  pub word_run_passes : (mid : BodyState) (n : ℕ) → ChecksFront rows state piece mid (Ok 4) → 0 < n → 4 + n ≤ length piece → n % 4 ≡ 0 → n ≤ 4 * run mid.position → (next : BodyState) → next ≡ pass_body mid (n / 4) →
      ChecksFront rows state piece next (Ok (4 + n))
  word_run_passes mid n first some inside fours fits next steps =
      let rest = drop 4 piece in
      let room : n ≤ length rest = omega (arith, length-drop 4 piece, inside) in
      let count : length (take n rest) / 4 ≡ n / 4 = omega (arith, length-take n rest, room) in
      let rest_are : IsBytes rest = drop_bytes piece 4 are in
      record {
        some = omega (arith, some);
        inside = inside;
        reads = λ fed r. (
            let r2 = first.reads fed r in
            let read = run_taken rows r2.0 mid (fed ++ take 4 piece) r2.1 (stands_room rows r2.0 mid [] (fed ++ take 4 piece) r2.1 (runs_on mid.position (omega (arith, some, fits)))) rest n rest_are room fours some fits in
            let whole : (fed ++ take 4 piece) ++ take n rest ≡ fed ++ take (4 + n) piece =
            append_assoc fed (take 4 piece) (take n rest) ∙ ap (λ (xs : List ℕ). fed ++ xs) (sym (take-add 4 n piece)) in (
              stored_run mid (take n rest) r2.0,
              subst (λ (bs : List ℕ). StandsAfter rows (stored_run mid (take n rest) r2.0) next [] bs) whole
                  (stands_as _ _ _ _ _ _ _ _ refl (steps ∙ ap (λ (k : ℕ). pass_body mid k) (sym count)) refl read),
            )
            );
      }

  -- offsets
  pub offsets_pass : (n : ℕ) → 0 < n → 4 * n ≤ length piece → (next : BodyState) → PassesOffsets (words_of rows) (bases_of rows) here (take n (longs piece)) next → ChecksFront rows state piece next (Ok (4 * n))
  offsets_pass n some inside next passes = record {
    some = omega (arith, some);
    inside = inside;
    reads = λ fed r. (
      (passes r.0).0,
      read_offsets rows r.0 (passes r.0).0 here next fed piece n (here_at fed r) are inside (passes r.0).1,
    );
  }

-- ---- a part of a piece

-- The check goes on after more bytes.
pub checked_more : (rows : List Row) (at : Standing) (state : BodyState) (pending : Pending) (fed bytes : List ℕ) → IsCheckedAfter rows at fed →
    ((store : List ℕ) × StandsAfter rows store state (pending_of pending) (fed ++ bytes)) → IsCheckedAfter rows (record { state = state; fed = at.fed; pending = pending }) (fed ++ bytes)
checked_more rows at state pending fed bytes h r =
    (r.0, record { counted = refl; hunks = h.1.hunks; size = stands_length rows r.0 state (pending_of pending) (fed ++ bytes) r.1; stands = r.1 })

pub any_checked : (rows : List Row) (at : Standing) (fed : List ℕ) → IsCheckedTo rows at fed → IsCheckedAfter rows at fed
any_checked rows at fed h = (h.0, any_count rows h.0 at fed h.1)

-- Its hunk is open where the file is not whole.
pub checked_open : (rows : List Row) (at : Standing) (fed : List ℕ) → IsCheckedAfter rows at fed → is_done at.state.position ≡ false → IsOpenIn rows at.state
checked_open rows at fed h more =
    subst (λ (n : ℕ). IsInStore (words_of rows) n at.state) h.1.size (in_room rows h.0 _ fed h.1 more)

-- Where no byte of a longword is pending, longwords of a piece are a part of it.
module _ (rows : List Row) (at : Standing) (piece : List ℕ) (none : pending_of at.pending ≡ []) (next : BodyState) where
  abbrev to : Standing
  to = record { state = next; fed = at.fed; pending = at.pending }

  read_to : (fed : List ℕ) → (h : IsCheckedAfter rows at fed) → IsReadTo rows at.state fed
  read_to fed h = (h.0, stands_as _ _ _ _ _ _ _ _ refl refl (sym none) h.1.stands)

  in_fours : (fed : List ℕ) → (h : IsCheckedAfter rows at fed) → length fed ≡ 4 * (length fed / 4)
  in_fours fed h =
      let r = h.1.stands in
      omega (arith, ap length r.spelled, length-append (bytes_of r.ws) (pending_of at.pending), length-bytes_of r.ws, ap length none)

  pub front_part : (result : Result ℕ Reason) → ChecksFront rows at.state piece next result → ChecksPart rows at piece to result
  front_part (Ok n) f = record {
    takes = record {
      some = f.some;
      inside = f.inside;
      takes = λ fed h. (
          let r = f.reads fed (read_to fed h) in
          checked_more rows at next at.pending fed (take n piece) h (r.0, stands_as _ _ _ _ _ _ _ _ refl refl none r.1));
    };
    refuses = tt;
    uncounted = refl;
  }
  front_part (Err reason) f = record {
    takes = tt;
    refuses = record {
      refuses = λ fed h. subst (λ (k : ℕ). HasRefusal (fed ++ piece) k reason) (in_fours fed h) (f.refuses fed (read_to fed h));
      own_reasons = f.own_reasons;
      same = f.same;
    };
    uncounted = refl;
  }
