-- Longwords that lie whole in a piece of a body, taken one part after another.
use Rattle.std.proofs.Common.{rules, ◌≡◌, ℕ, ◌+◌, ◌-◌, ◌*◌, ◌/◌, ◌%◌, ◌<◌, ◌≤◌, false, List, [], ◌∷◌, ◌++◌, length, take, drop, get_or, None, Some, Ok, Err, refl, sym, ap, subst, ◌∙◌, arith, length-take, length-drop, length-append, append_assoc, take-append-drop}
use Rattle.std.proofs.Math.Seq.{take-add}
use Rattle.std.proofs.lemmas.List.{drop-drop, take_rest}
use Rattle.hunk_words.specs.{declared.reason.Reason.Reason, Longs.{bytes_of, longs, IsBytes, IsLong}}
use Rattle.hunk_files.specs.{Fault.HasRefusal, declared.row.Row.Row}
use Rattle.hunk_grammar.specs.{Positions.{is_done, run}, declared.position.Position.Position}
use Rattle.hunk_scatter.specs.{declared.store.BodyState.BodyState, BodyLoaderFields.{ReadsOn, ReadyAt, RefusesFirstLong, StandsAfter, TakesOrRefuses}}
use Rattle.hunk_scatter.specs.Checking.{IsReadTo}
use Rattle.hunk_scatter.specs.{StoreContent.{stored_long, stored_run}, BodySteps.{refusal, step_body, pass_body, IsInStore}, Rows.{words_of, bases_of}}
use Rattle.hunk_scatter.proofs.{Faults.refusal_front, OneByte.{Going, going, more_read, refused_here, stands_as}}
use Rattle.hunk_scatter.proofs.{Refusing.refused_in_body, Runs.{read_run, take_bytes}, WithinStore.{stays_as, word_stays}}
use Rattle.hunk_words.proofs.LongLaws.{in_place}

module _ (rows : List Row) (store : List ℕ) (state : BodyState) (fed : List ℕ) (r : StandsAfter rows store state [] fed) (more : is_done state.position ≡ false) where
  gone : Going rows store state [] fed
  gone = going rows store state [] fed r more

  -- the first alone
  module _ (piece : List ℕ) (are : IsBytes piece) (four : 4 ≤ length piece) (w : ℕ) (is : IsLong w) (first : w ≡ get_or (longs piece) 0 0) where
    spelled : take 4 piece ≡ bytes_of (w ∷ [])
    spelled = in_place piece are four ∙ ap (λ (v : ℕ). bytes_of (v ∷ [])) (sym first)

    pub word_taken : refusal (words_of rows) state w ≡ None → StandsAfter rows (stored_long (bases_of rows) state w store) (step_body (words_of rows) state w) [] (fed ++ take 4 piece)
    word_taken ok = more_read rows store state [] fed gone (take 4 piece) w is spelled ok

    pub word_refused : (reason : Reason) → refusal (words_of rows) state w ≡ Some reason → HasRefusal (fed ++ piece) (length fed) reason
    word_refused reason no-pass =
        refusal_front fed piece 4 (length fed) reason
        (refused_here rows store state [] fed gone (take 4 piece) w is spelled reason (length fed) (omega (arith, length-take 4 piece, four)) no-pass)

-- those of a run
pub run_taken : (rows : List Row) (store : List ℕ) (state : BodyState) (fed : List ℕ) → StandsAfter rows store state [] fed → IsInStore (words_of rows) (length store) state →
    (piece : List ℕ) (n : ℕ) → IsBytes piece → n ≤ length piece → n % 4 ≡ 0 → 0 < n → n ≤ 4 * run state.position →
    StandsAfter rows (stored_run state (take n piece) store) (pass_body state (length (take n piece) / 4)) [] (fed ++ take n piece)
run_taken rows store state fed r i piece n are inside fours some fits = search (rules, read_run, take_bytes)

-- the position by another name
pub read_at : (rows : List Row) (store : List ℕ) (state : BodyState) (position : Position) (fed : List ℕ) → position ≡ state.position → StandsAfter rows store state [] fed →
    StandsAfter rows store (record { hunk = state.hunk; start = state.start; position = position }) [] fed
read_at rows store state position fed same r = subst (λ (p : Position). StandsAfter rows store (record { hunk = state.hunk; start = state.start; position = p }) [] fed) (sym same) r

pub room_at : (sizes : List ℕ) (total : ℕ) (state : BodyState) (position : Position) → position ≡ state.position → IsInStore sizes total state →
    IsInStore sizes total (record { hunk = state.hunk; start = state.start; position = position })
room_at sizes total state position same i = subst (λ (p : Position). IsInStore sizes total (record { hunk = state.hunk; start = state.start; position = p })) (sym same) i

-- the first longword of a piece, at a position of this name
module _ (rows : List Row) (store : List ℕ) (state : BodyState) (position : Position) (piece : List ℕ) (w : ℕ) (ready : ReadyAt rows store state position piece) (more : is_done position ≡ false) (are : IsBytes piece)
    (is : IsLong w) (first : w ≡ get_or (longs piece) 0 0) where
  abbrev here : BodyState
  here = record { hunk = state.hunk; start = state.start; position = position }

  here_in : IsInStore (words_of rows) (length store) here
  here_in = room_at (words_of rows) (length store) state position ready.position_is ready.in_store

  pub first_taken : refusal (words_of rows) here w ≡ None → (after : List ℕ) (next : BodyState) → after ≡ stored_long (bases_of rows) here w store → length after ≡ length store → next ≡ step_body (words_of rows) here w →
      TakesOrRefuses rows store state piece after next (Ok 4)
  first_taken ok after next stores same steps = record {
    takes = record {
      some = omega arith;
      inside = ready.whole_long;
      reads =
          λ fed r.
          stands_as _ _ _ _ _ _ _ _ stores steps refl (word_taken rows store here fed (read_at rows store state position fed ready.position_is r) more piece are ready.whole_long w is first ok);
      stays = stays_as _ _ _ _ _ same steps (word_stays _ _ here w here_in ok);
    };
    refuses = tt;
  }

  pub first_refused : (reason : Reason) → refusal (words_of rows) here w ≡ Some reason → TakesOrRefuses rows store state piece store state (Err reason)
  first_refused reason no-pass = record {
    takes = tt;
    refuses = record {
      refuses = λ fed r. word_refused rows store here fed (read_at rows store state position fed ready.position_is r) more piece are ready.whole_long w is first reason no-pass;
      own_reasons = refused_in_body (words_of rows) (length store) here w reason here_in no-pass;
      same = refl;
    };
  }

-- ---- a longword that these bytes complete

-- What it does whole, it does after the bytes that were pending.
module _ (rows : List Row) (store : List ℕ) (state : BodyState) (pending fed bytes four : List ℕ) (r : StandsAfter rows store state pending fed) (gathers : pending ++ bytes ≡ four) where
  abbrev front : List ℕ
  front = bytes_of r.ws

  front_stands : StandsAfter rows store state [] front
  front_stands = search rules

  spells : front ++ four ≡ fed ++ bytes
  spells = sym (ap (λ (xs : List ℕ). xs ++ bytes) r.spelled ∙ append_assoc (bytes_of r.ws) pending bytes ∙ ap (λ (xs : List ℕ). bytes_of r.ws ++ xs) gathers)

  pub gathered_reads : (store2 : List ℕ) (state2 : BodyState) → ReadsOn rows store state four store2 state2 → StandsAfter rows store2 state2 [] (fed ++ bytes)
  gathered_reads store2 state2 reads = subst (λ (bs : List ℕ). StandsAfter rows store2 state2 [] bs) spells (reads (bytes_of r.ws) front_stands)

  -- with whatever store
  pub gathered_checked : (state2 : BodyState) → ((front : List ℕ) → IsReadTo rows state front → IsReadTo rows state2 (front ++ four)) → IsReadTo rows state2 (fed ++ bytes)
  gathered_checked state2 reads = subst (λ (bs : List ℕ). IsReadTo rows state2 bs) spells (reads front (store, front_stands))

  pub gathered_refused : (reason : Reason) → RefusesFirstLong rows store state four reason → HasRefusal (fed ++ bytes) (4 * (length fed / 4)) reason
  gathered_refused reason refuses = search (rules, length-append, spells, front_stands)

-- ---- one part after another

-- Of the piece this rest is left.
abbrev pub Leaves : List ℕ → List ℕ → Type 0
Leaves piece rest = (length rest ≤ length piece) × (rest ≡ drop (length piece - length rest) piece)

module _ (piece rest : List ℕ) (leaves : Leaves piece rest) where
  taken : ℕ
  taken = length piece - length rest

  -- more of it is taken
  pub leaves_more : (left : List ℕ) (m : ℕ) → 0 < m → m ≤ length rest → left ≡ take (length rest - m) (drop m rest) →
      Leaves piece left × (take (length piece - length rest) piece ++ take m rest ≡ take (length piece - length left) piece) × (length left < length piece)
  unfolding taken
  leaves_more left m some inside left_is =
      let left_at : left ≡ drop m rest = left_is ∙ take_rest rest m in
      let long : length left ≡ length rest - m = ap length left_at ∙ length-drop m rest in
      let on : taken + m ≡ length piece - length left = omega (arith, leaves.0, inside, long) in
      let next : left ≡ drop (taken + m) piece = left_at ∙ ap (λ (xs : List ℕ). drop m xs) leaves.1 ∙ drop-drop m taken piece in (
        (omega (arith, leaves.0, inside, long), next ∙ ap (λ (k : ℕ). drop k piece) on),
        ap (λ (xs : List ℕ). take taken piece ++ take m xs) leaves.1 ∙ sym (take-add taken m piece) ∙ ap (λ (k : ℕ). take k piece) on,
        omega (arith, leaves.0, some, inside, long),
      )

  -- what was taken and the rest are the piece
  pub whole_piece : (fed : List ℕ) → (fed ++ take (length piece - length rest) piece) ++ rest ≡ fed ++ piece
  unfolding taken
  whole_piece fed = search (rules, append_assoc, take-append-drop)

  -- so far it has this many bytes
  pub length_so_far : (fed : List ℕ) → length (fed ++ take (length piece - length rest) piece) ≡ length fed + (length piece - length rest)
  unfolding taken
  length_so_far fed = omega (arith, length-append fed (take taken piece), length-take taken piece)
