-- A loader that passes over a piece.
use Rattle.std.proofs.Common.{rules, ◌≡◌, ◌+◌, ◌-◌, ◌/◌, ◌%◌, ◌<◌, ◌≤◌, ℕ, zero, suc, false, List, [], ◌∷◌, ◌++◌, length, take, refl, sym, ap, subst, ◌∙◌, arith, length-append, length-take, get_or, Option, None, Some, MatchOption, true≢false}
use Rattle.std.proofs.lemmas.List.{length-map, take_all}
use Rattle.hunk_words.specs.{Carriers.saturated, Longs.{Gathers, IsBytes}, PendingBytes.pending_of}
use Rattle.hunk_words.specs.declared.pending.Pending.{Pending}
use Rattle.hunk_words.proofs.{PendingLaws.{few_pending, pending_none}}
use Rattle.hunk_grammar.specs.declared.phase.Phase.{Phase}
use Rattle.hunk_grammar.specs.declared.phase.Phase.TheVariants as phases
use Rattle.hunk_grammar.specs.{Positions.{is_done, pass}, declared.position.OpenHunk.OpenHunk, declared.position.Position.Position}
use Rattle.hunk_grammar.specs.declared.position.Position.TheVariants as positions
use Rattle.hunk_files.specs.declared.row.Row.{Row}
use Rattle.hunk_scatter.specs.{BodyLoaderFields.StandsAfter, BodySteps.{RoomFor, longs_at}, Rows.words_of, Streaming.{FitsStore, IsFed}}
use Rattle.hunk_scatter.specs.declared.stream.Standing.{Standing}
use Rattle.hunk_scatter.proofs.{BodyFields.{fed_more, gone, in_room}, OneByte.more_pending, StreamLaws.first_byte, WholeLongs.run_taken}
use Rattle.hunk_c.specs.declared.loader.Loader.{Loader}
use Rattle.hunk_c.specs.Loaders.{CountsBytes, LiesIn, MayBeInBody, MayHavePosition, StandsAt, TellsNone, loader_at, open_hunk, pending_in, phase_in, refusal_in, standing_in, with_numbers}
use Rattle.hunk_c.specs.Streams.{PassesOver}
use Rattle.hunk_c.proofs.{Numbers.stands_by, Streamed.{stands_at, stands_so}}

-- with more bytes, and these of the next longword
abbrev with_pending : Standing → ℕ → Pending → Standing
with_pending at fed pending = record { state = at.state; fed = fed; pending = pending }

abbrev pub loader_with : Loader → ℕ → Pending → Loader
loader_with l fed pending = with_numbers l fed l.owed pending (refusal_in l)

-- no refusal is in the numbers of one that stands
pub clean_is : (l : Loader) (at : Standing) → StandsAt l at → refusal_in l ≡ (0, 0, 0)
clean_is l at s = λ i. (s.clean.place i, s.clean.number i, s.clean.hunk i)

with_is : (l : Loader) (at : Standing) (fed : ℕ) (pending : Pending) → StandsAt l at → loader_with l fed pending ≡ loader_at (with_pending at fed pending)
with_is l at fed pending s =
    ap (with_numbers l fed l.owed pending) (clean_is l at s) ∙ ap (λ (x : Loader). with_numbers x fed x.owed pending (0, 0, 0)) s.numbers

-- The numbers fit as long as the state is the same.
fits_with : (rows : List Row) (total : ℕ) (at : Standing) (fed : ℕ) (pending : Pending) → FitsStore rows total at → pending.count < 4 → FitsStore rows total (with_pending at fed pending)
fits_with rows total at fed pending f few = record { few = few; in_store = f.in_store; hunks = f.hunks; whole = f.whole }

-- All of a piece is taken, where the loader then stands so, and the file goes on.
passes_over : (rows : List Row) (total : ℕ) (l new : Loader) (piece : List ℕ) (from to : Standing) → StandsAt l from → FitsStore rows total from → new ≡ loader_at to → FitsStore rows total to →
    to.fed ≡ saturated (from.fed + length piece) → is_done to.state.position ≡ false →
    ((memory fed : List ℕ) → IsFed rows memory from fed → IsFed rows memory to (fed ++ take (length piece) piece)) → PassesOver rows total l piece new
passes_over rows total l new piece from to s f numbers still counted more fed_is = λ memory size. record {
  from = from;
  to = to;
  stood = s;
  fits = subst (λ (n : ℕ). FitsStore rows n from) (sym size) f;
  numbers = numbers;
  fits_still = subst (λ (n : ℕ). FitsStore rows n to) (sym size) still;
  counted = counted;
  inside = omega arith;
  all = λ less. absurd (omega (arith, less));
  not_early = λ done. absurd (true≢false (sym done ∙ more));
  takes = λ fed h. stands_so rows new to memory (fed ++ take (length piece) piece) numbers (fed_is memory fed (stands_at rows l memory fed from s h));
}

-- Bytes that complete no longword.
module _ (rows : List Row) (total : ℕ) (l : Loader) (at : Standing) (piece : List ℕ) (pending : Pending) (s : StandsAt l at) (f : FitsStore rows total at) (more : is_done at.state.position ≡ false)
    (gathers : Gathers (pending_of at.pending ++ piece) (pending_of pending) None) (few : pending.count < 4) where
  fed_bytes : (memory fed : List ℕ) → IsFed rows memory at fed → IsFed rows memory (with_pending at (saturated (at.fed + length piece)) pending) (fed ++ piece)
  fed_bytes memory fed h =
      let short : length (pending_of at.pending ++ piece) < 4 = omega (arith, ap (λ (xs : List ℕ). length xs) gathers, few_pending pending few) in
      fed_more rows memory at fed h memory (with_pending at (saturated (at.fed + length piece)) pending) piece refl (omega (arith, h.counted, length-append fed piece))
      (subst (λ (xs : List ℕ). StandsAfter rows memory at.state xs (fed ++ piece)) (sym gathers) (more_pending _ _ _ _ _ (gone rows memory at fed h more) piece short))

  pub passes_bytes : PassesOver rows total l piece (loader_with l (saturated (at.fed + length piece)) pending)
  passes_bytes =
      let sum : ℕ = saturated (at.fed + length piece) in
      let to : Standing = with_pending at sum pending in
      passes_over rows total l (loader_with l sum pending) piece at to s f (with_is l at sum pending s) (fits_with rows total at sum pending f few) refl more
      (λ memory fed h. subst (λ (xs : List ℕ). IsFed rows memory to (fed ++ xs)) (sym (take_all (length piece) piece (omega arith))) (fed_bytes memory fed h))

-- ---- a byte

-- There is room in the hunk for what a longword does at the phase.
room_for : (rows : List Row) (total : ℕ) (l : Loader) (phase : Phase) → LiesIn rows total l → MayHavePosition l (positions.Body (open_hunk l) phase) →
    RoomFor (words_of rows) (longs_at (words_of rows) l.hunk) phase
room_for rows total l (phases.Content all owed) lies h = (h.may_stand.2.1, omega (arith, lies.content h.numbers.phase, h.numbers.part))
room_for rows total l (phases.Offset target owed) lies h = omega (arith, h.may_stand.2.1, lies.hunks, length-map rows (λ (r : Row). r.word))
room_for rows total l _ lies h = tt

-- At a phase of the open hunk the numbers fit the rows and the memory.
pub fits_open : (rows : List Row) (total : ℕ) (l : Loader) (phase : Phase) → LiesIn rows total l → l.pending < 4 → MayHavePosition l (positions.Body (open_hunk l) phase) →
    FitsStore rows total (standing_in l (positions.Body (open_hunk l) phase))
fits_open rows total l phase lies few h =
    let many = length-map rows (λ (r : Row). r.word) in
    let open_at = h.may_stand.0 in
    record {
      few = few;
      in_store = λ e. record {
        hunks = omega (arith, many, lies.hunks, open_at.few);
        hunk = omega (arith, many, lies.hunks, open_at.counts);
        segment = lies.segment;
        in_body = refl;
        targets = omega (arith, many, lies.hunks);
        room = room_for rows total l phase lies h;
      };
      hunks = λ e. lies.hunks;
      whole = λ e. absurd cc;
    }

-- A byte that completes no longword is passed over in an open hunk.
pub passes_byte : (rows : List Row) (total : ℕ) (l : Loader) (piece : List ℕ) (pending : Pending) → MayBeInBody l → CountsBytes l.start l.fed l.pending → TellsNone l → LiesIn rows total l →
    pending_of pending ≡ pending_of (pending_in l) ++ piece → pending.count < 4 → PassesOver rows total l piece (loader_with l (saturated (l.fed + length piece)) pending)
passes_byte rows total l piece pending may counts clean lies gathers few = go (phase_in l.phase l.part l.owed) may
  where
    go : (p : Option Phase) → MatchOption p ⊥ (λ phase. MayHavePosition l (positions.Body (open_hunk l) phase)) → PassesOver rows total l piece (loader_with l (saturated (l.fed + length piece)) pending)
    go None h = absurd h
    go (Some phase) h =
        let p : Position = positions.Body (open_hunk l) phase in
        passes_bytes rows total l (standing_in l p) piece pending (stands_by l p h counts clean) (fits_open rows total l phase lies counts.few h) refl gathers few

pub one_byte : (piece : List ℕ) → length piece ≡ 1 → get_or piece 0 0 ∷ [] ≡ piece
one_byte piece e = first_byte piece (omega (arith, e)) ∙ take_all 1 piece (omega (arith, e))

-- ---- a payload

-- After longwords of a payload, as many as are owed at most.
pass_payload : (hunk : OpenHunk) (owed n : ℕ) → 0 < n → n ≤ owed → pass (positions.Body hunk (phases.Payload owed)) n ≡ positions.Body hunk (phases.Payload (owed - n))
pass_payload hunk owed zero some few = absurd (omega (arith, some))
pass_payload hunk owed (suc n) some few = search rules

abbrev pub payload_at : Loader → ℕ → ℕ → Standing
payload_at l fed owed = record {
  state = record { start = l.start; hunk = l.hunk; position = positions.Body (open_hunk l) (phases.Payload owed) };
  fed = fed;
  pending = pending_in l;
}

-- At the phase of a payload a loader stands so.
pub payload_stands : (l : Loader) → l.phase ≡ 8 → MatchOption (phase_in l.phase l.part l.owed) ⊥ (λ phase. MayHavePosition l (positions.Body (open_hunk l) phase)) → MayHavePosition l (positions.Body (open_hunk l) (phases.Payload l.owed))
payload_stands l payload h = subst (λ (o : Option Phase). MatchOption o ⊥ (λ phase. MayHavePosition l (positions.Body (open_hunk l) phase))) (ap (λ (n : ℕ). phase_in n l.part l.owed) payload) h

-- The loader after such a piece.
abbrev pub after_payload : Loader → ℕ → Loader
after_payload l n = with_numbers l (saturated (l.fed + n)) (l.owed - n / 4) (pending_in l) (refusal_in l)

module _ (rows : List Row) (total : ℕ) (l : Loader) (piece : List ℕ) (s : StandsAt l (payload_at l l.fed l.owed)) (f : FitsStore rows total (payload_at l l.fed l.owed))
    (clean : l.pending ≡ 0) (are : IsBytes piece) (fours : length piece % 4 ≡ 0) (some : 0 < length piece) (few : length piece / 4 ≤ l.owed) where
  abbrev from : Standing
  from = payload_at l l.fed l.owed

  abbrev to : Standing
  to = payload_at l (saturated (l.fed + length piece)) (l.owed - length piece / 4)

  payload_is : after_payload l (length piece) ≡ loader_at to
  payload_is =
      ap (with_numbers l to.fed (l.owed - length piece / 4) (pending_in l)) (clean_is l from s)
      ∙ ap (λ (x : Loader). with_numbers x to.fed (l.owed - length piece / 4) (pending_in x) (0, 0, 0)) s.numbers

  fits_payload : FitsStore rows total to
  fits_payload = record {
    few = f.few;
    in_store = λ e. let i = f.in_store refl in record { hunks = i.hunks; hunk = i.hunk; segment = i.segment; in_body = refl; targets = i.targets; room = tt };
    hunks = λ e. f.hunks refl;
    whole = λ e. absurd cc;
  }

  payload_fed : (memory fed : List ℕ) → IsFed rows memory from fed → IsFed rows memory to (fed ++ take (length piece) piece)
  payload_fed memory fed k =
      let n = length piece in
      let none : pending_of from.pending ≡ [] = pending_none from.pending clean in
      let here : StandsAfter rows memory from.state [] fed = subst (λ (xs : List ℕ). StandsAfter rows memory from.state xs fed) none k.stands in
      let long : length (take n piece) ≡ n = omega (arith, length-take n piece) in
      let same : pass from.state.position (length (take n piece) / 4) ≡ to.state.position =
      ap (λ (m : ℕ). pass from.state.position (m / 4)) long ∙ pass_payload (open_hunk l) l.owed (n / 4) (omega (arith, some, fours)) few in
      let there : StandsAfter rows memory to.state [] (fed ++ take n piece) =
      subst (λ (p : Position). StandsAfter rows memory (record { start = l.start; hunk = l.hunk; position = p }) [] (fed ++ take n piece)) same
      (run_taken rows memory from.state fed here (in_room rows memory from fed k refl) piece n are (omega arith) fours some (omega (arith, few, fours))) in
      fed_more rows memory from fed k memory to (take n piece) refl (omega (arith, long, k.counted, length-append fed (take n piece)))
      (subst (λ (xs : List ℕ). StandsAfter rows memory to.state xs (fed ++ take n piece)) (sym none) there)

  pub passes_payload : PassesOver rows total l piece (after_payload l (length piece))
  passes_payload = passes_over rows total l (after_payload l (length piece)) piece from to s f payload_is fits_payload refl refl payload_fed
