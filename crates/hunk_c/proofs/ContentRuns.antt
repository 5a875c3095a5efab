-- Longwords of a content that come whole, after which others are owed.
use Rattle.std.proofs.Common.{rules, ◌≡◌, ◌<◌, ◌≤◌, ◌+◌, ◌-◌, ◌*◌, ◌/◌, ◌%◌, ℕ, zero, suc, List, [], ◌++◌, length, take, refl, sym, ap, subst, ◌∙◌, arith, length-append}
use Rattle.std.proofs.lemmas.List.{take_all}
use Rattle.hunk_words.specs.{Carriers.saturated, Longs.IsBytes, PendingBytes.pending_of}
use Rattle.hunk_words.proofs.PendingLaws.{pending_none}
use Rattle.hunk_grammar.specs.declared.phase.Phase.TheVariants as phases
use Rattle.hunk_grammar.specs.{Positions.pass, declared.position.OpenHunk.OpenHunk, declared.position.Position.Position}
use Rattle.hunk_grammar.specs.declared.position.Position.TheVariants as positions
use Rattle.hunk_files.specs.declared.row.Row.{Row}
use Rattle.hunk_scatter.specs.{BodyLoaderFields.StandsAfter, BodySteps.pass_body, StoreContent.{put_slice, stored_run}, Streaming.{FitsStore, IsFed}}
use Rattle.hunk_scatter.specs.declared.stream.Standing.{Standing}
use Rattle.hunk_scatter.specs.declared.store.BodyState.{BodyState}
use Rattle.hunk_scatter.proofs.{BodyFields.fed_more, OneByte.stands_as, WholeLongs.run_taken}
use Rattle.hunk_c.specs.declared.loader.Loader.{Loader}
use Rattle.hunk_c.specs.Loaders.{IsReady, MayHavePosition, Stands, StandsAt, loader_at, open_hunk, pending_in, refusal_in, standing_in, with_numbers}
use Rattle.hunk_c.specs.Streams.{TakesPiece}
use Rattle.hunk_c.proofs.{LastBytes.stands_at_phase, Numbers.stands_by, Passing.{clean_is, fits_open}, Streamed.{stands_at, stands_so}}

-- So many longwords less are owed then.
content_passed : (o : OpenHunk) (longs owed n : ℕ) → 0 < n → n ≤ owed → pass (positions.Body o (phases.Content longs owed)) n ≡ positions.Body o (phases.Content longs (owed - n))
content_passed o longs owed zero some few = absurd (omega (arith, some))
content_passed o longs owed (suc n) some few = search rules

-- the loader after such a piece
abbrev pub after_content : Loader → ℕ → Loader
after_content l n = with_numbers l (saturated (l.fed + n)) (l.owed - n / 4) (pending_in l) (refusal_in l)

module _ (rows : List Row) (l : Loader) (memory after piece : List ℕ) (ready : IsReady rows (length memory) l) (content : l.phase ≡ 7) (clean : l.pending ≡ 0) (are : IsBytes piece) (fours : length piece % 4 ≡ 0) (some : 0 < length piece)
    (few : length piece / 4 ≤ l.owed) (stores : after ≡ put_slice memory (l.start + 4 * (l.part - l.owed - 1)) piece) (same : length after ≡ length memory) where
  abbrev position : ℕ → Position
  position owed = positions.Body (open_hunk l) (phases.Content l.part owed)

  abbrev from : Standing
  from = standing_in l (position l.owed)

  abbrev state : ℕ → BodyState
  state owed = record { start = l.start; hunk = l.hunk; position = position owed }

  abbrev left : ℕ
  left = l.owed - length piece / 4

  abbrev to : Standing
  to = record { state = state (l.owed - length piece / 4); fed = saturated (l.fed + length piece); pending = pending_in l }

  stands : MayHavePosition l (position l.owed)
  stands = stands_at_phase rows (length memory) l 7 ready content

  s : StandsAt l from
  s = stands_by l (position l.owed) stands ready.counts ready.clean

  f : FitsStore rows (length memory) from
  f = fits_open rows (length memory) l (phases.Content l.part l.owed) ready.lies ready.counts.few stands

  numbers_are : after_content l (length piece) ≡ loader_at to
  numbers_are =
      ap (with_numbers l to.fed (l.owed - length piece / 4) (pending_in l)) (clean_is l from s)
      ∙ ap (λ (x : Loader). with_numbers x to.fed (l.owed - length piece / 4) (pending_in x) (0, 0, 0)) s.numbers

  fits_then : FitsStore rows (length memory) to
  fits_then = record {
    few = f.few;
    in_store =
        λ e.
        let i = f.in_store refl in
        record { hunks = i.hunks; hunk = i.hunk; segment = i.segment; in_body = refl; targets = i.targets; room = (omega (arith, stands.may_stand.2.1), omega (arith, ready.lies.content content)) };
    hunks = λ e. f.hunks refl;
    whole = λ e. absurd cc;
  }

  whole_piece : take (length piece) piece ≡ piece
  whole_piece = take_all (length piece) piece (omega arith)

  reads : (fed : List ℕ) → StandsAfter rows memory (state l.owed) [] fed → StandsAfter rows after (state (l.owed - length piece / 4)) [] (fed ++ piece)
  reads fed r =
      stands_as rows (stored_run (state l.owed) piece memory) after (pass_body (state l.owed) (length piece / 4)) (state (l.owed - length piece / 4)) [] [] (fed ++ piece) stores
      (ap (λ (p : Position). record { start = l.start; hunk = l.hunk; position = p }) (sym (content_passed (open_hunk l) l.part l.owed (length piece / 4) (omega (arith, some, fours)) few))) refl
      (subst (λ (bs : List ℕ). StandsAfter rows (stored_run (state l.owed) bs memory) (pass_body (state l.owed) (length bs / 4)) [] (fed ++ bs)) whole_piece
      (run_taken rows memory (state l.owed) fed r (f.in_store refl) piece (length piece) are (omega arith) fours some (omega (arith, few, fours))))

  fed_run : (fed : List ℕ) → IsFed rows memory from fed → IsFed rows after to (fed ++ piece)
  fed_run fed k =
      let none : pending_of from.pending ≡ [] = pending_none from.pending clean in
      fed_more rows memory from fed k after to piece same (omega (arith, k.counted, length-append fed piece))
      (subst (λ (xs : List ℕ). StandsAfter rows after to.state xs (fed ++ piece)) (sym none) (reads fed (subst (λ (xs : List ℕ). StandsAfter rows memory from.state xs fed) none k.stands)))

  pub takes_content : TakesPiece rows l (after_content l (length piece)) memory after piece (length piece)
  takes_content = record {
    from = from;
    to = to;
    stood = s;
    fits = f;
    numbers = numbers_are;
    fits_still = subst (λ (n : ℕ). FitsStore rows n to) (sym same) fits_then;
    counted = refl;
    inside = omega arith;
    all = λ less. absurd (omega (arith, less));
    not_early = λ done. absurd cc;
    takes =
        λ fed h.
        subst (λ (bs : List ℕ). Stands rows (after_content l (length piece)) after (fed ++ bs)) (sym whole_piece)
        (stands_so rows (after_content l (length piece)) to after (fed ++ piece) numbers_are (fed_run fed (stands_at rows l memory fed from s h)));
  }
