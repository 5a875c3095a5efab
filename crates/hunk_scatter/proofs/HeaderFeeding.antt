-- A piece of a source that the loader of a header is fed, and why none is.
use Rattle.std.proofs.Common.{◌≡◌, ℕ, zero, suc, ◌+◌, ◌<◌, ◌≤◌, List, [], ◌∷◌, ◌++◌, length, take, drop, None, Ok, Err, refl, sym, ap, subst, ◌∙◌, append_assoc, append-nil, length-append, take-append-drop, arith, inl, inr}
use Rattle.std.proofs.Math.Seq.{take-append-add}
use Rattle.std.proofs.lemmas.List.{length-take-le, take-append-le, take-take, take_all}
use Rattle.std.specs.{Prelude.IsTrue, Io.KnownBytes.Consumes}
use Rattle.hunk_words.specs.{Carriers.Supply, Longs.{bytes_of, IsBytes}, declared.fault.Fault.Fault}
use Rattle.hunk_words.specs.declared.reason.Reason.TheVariants as reasons
use Rattle.hunk_words.proofs.LongLaws.{length-bytes_of}
use Rattle.hunk_grammar.specs.declared.file_kind.Sniff.TheVariants as sniffs
use Rattle.hunk_files.specs.{FileParts.IsPartAt}
use Rattle.hunk_files.specs.declared.part.Part.TheVariants as parts
use Rattle.hunk_scatter.specs.{HeaderBytes.{IsHeader, IsHeaderFront}, HeaderFaults.{CompletesRow, ExceedsBudget, IsHeaderFault, IsOverBudget}}
use Rattle.hunk_scatter.specs.{HeaderFeeds.{FeedsHeader, IsHeaderCutShort, StopsAtLongword}, HeaderLoaderFields.StopsInPiece, LoaderReasons.is_of_header}
use Rattle.hunk_scatter.specs.{LoaderValues.{FeedsFront, HeaderLoaderValue}, LoadOutcomes.{GoesPastNoHeader, IsReadFault}}
use Rattle.hunk_scatter.proofs.Feeding.{header_fed, header_within_more, header_wants, row_begins}
use Rattle.hunk_scatter.proofs.{HeaderFronts.passes_more, HeaderStops.{stop_ends, stop_fault, stop_in_header, stop_within}, PartLaws.read_fault_in}

no_bytes : IsBytes []
no_bytes i = omega (arith)

-- The bytes up to the end of the longword have the fault.
pub stops_at : (budget : ℕ) (fed piece : List ℕ) (f : Fault) → StopsInPiece budget fed piece f → StopsAtLongword budget fed piece f
stops_at budget fed piece f (front, rest, e, less, s) =
    let ends : length front ≡ f.place + 4 = stop_ends budget front rest f s in
    let cut : take (f.place + 4) (fed ++ piece) ≡ front =
    ap (take (f.place + 4)) e ∙ take-append-le (f.place + 4) front rest (omega (arith, ends)) ∙ take_all (f.place + 4) front (omega (arith, ends)) in
    let same : front ++ [] ≡ take (f.place + 4) (fed ++ piece) = append-nil front ∙ sym cut in
    record {
      after = omega (arith, less, ends);
      inside = omega (arith, ends, ap length e, length-append front rest);
      fault = subst (λ (bs : List ℕ). IsHeaderFault budget bs f) same (stop_fault budget front [] f s no_bytes);
      in_header = subst GoesPastNoHeader (sym cut) (stop_within budget front rest f s);
      part = subst (λ (bs : List ℕ). IsPartAt sniffs.Load bs f.place parts.Header) same (stop_in_header budget front [] f s);
    }

-- ---- of a source

-- nothing was given
pub no_header_given : (old new : Supply) (limit : ℕ) (loader : HeaderLoaderValue) (want : ℕ) (f : Fault) → Consumes old.left new.left [] → length loader.fed ≤ limit →
    IsHeaderCutShort loader want → IsReadFault limit new (length loader.fed) f → FeedsHeader old new limit loader loader (Err f)
no_header_given old new limit loader want f consumed within short why =
    let same : loader.fed ++ [] ≡ loader.fed = append-nil loader.fed in
    record {
      piece = [];
      consumed = consumed;
      within = omega (arith, within, ap length same);
      in_header = subst GoesPastNoHeader (sym same) short.in_header;
      budget = refl;
      fed = tt;
      works = tt;
      stops = rw (same) (
        inr (
          record { clean = short.clean; truncated = short.truncated; why = why },
          short.keeps_to_budget,
        ),
        read_fault_in _ _ loader.fed parts.Header f why short.of_header,
      );
    }

module _ (old new : Supply) (limit : ℕ) (before after : HeaderLoaderValue) where
  -- all of the piece was taken, as it has no more than is wanted
  pub whole_header_piece : (piece : List ℕ) (want n : ℕ) → Consumes old.left new.left piece → length before.fed + length piece ≤ limit → new.failed ≡ old.failed → IsHeaderCutShort before want → length piece ≤ want →
      0 < length piece → after.budget ≡ before.budget → after.refused ≡ None → FeedsFront before.fed piece after.fed n → (n < length piece → IsHeader after.fed) → FeedsHeader old new limit before after (Ok tt)
  whole_header_piece piece want n consumed within works short fits some budget reading taken all = record {
    piece = piece;
    consumed = consumed;
    within = omega (arith, within, length-append before.fed piece);
    in_header = header_within_more before.fed piece want short.least fits (omega (arith, some, fits)) (λ w. absurd (short.not_whole w)) short.in_header;
    budget = budget;
    fed = (reading, header_fed before.fed piece want short.least fits after.fed n taken.0 taken.1 all, some);
    works = works;
    stops = tt;
  }

  -- a longword of the piece is refused, which has no more than is wanted
  pub header_piece_refused : (piece : List ℕ) (want : ℕ) (f : Fault) → Consumes old.left new.left piece → length before.fed + length piece ≤ limit → IsHeaderCutShort before want →
      length piece ≤ want → 0 < length piece → after.budget ≡ before.budget → IsHeaderFault before.budget (before.fed ++ piece) f → ((at : ℕ) → ExceedsBudget before.budget (before.fed ++ piece) at → IsOverBudget at f) →
      IsTrue (is_of_header f.reason) → (f.reason ≡ reasons.OutOfMemory → length before.fed < f.place + 4) → IsPartAt sniffs.Load (before.fed ++ piece) f.place parts.Header → FeedsHeader old new limit before after (Err f)
  header_piece_refused piece want f consumed within short fits some kept fault over own memory part = record {
    piece = piece;
    consumed = consumed;
    within = omega (arith, within, length-append before.fed piece);
    in_header = header_within_more before.fed piece want short.least fits (omega (arith, some, fits)) (λ w. absurd (short.not_whole w)) short.in_header;
    budget = kept;
    fed = tt;
    works = tt;
    stops = (
      inl
          (record {
            fault = fault;
            over = over;
            own_reasons = own;
            begins = λ e. row_begins before.fed piece want f.place short.least fits (memory e) (header_wants f before.budget (before.fed ++ piece) e fault);
          }),
      λ judged. part,
    );
  }

  -- ---- of what the source holds

  module _ (shown : List ℕ) (most n : ℕ) (consumed : Consumes old.left new.left (take n shown)) (within : length before.fed + most ≤ limit) (fits : most ≤ length shown) where
    -- where no header is whole yet, something is taken
    some_of_header : (n : ℕ) → 0 < most → (IsHeader before.fed → ⊥) → FeedsFront before.fed (take most shown) after.fed n → (n < length (take most shown) → IsHeader after.fed) → 0 < n
    some_of_header zero positive goes_on taken all =
        absurd (goes_on (subst IsHeader (taken.1 ∙ append-nil before.fed) (all (omega (arith, positive, length-take-le most shown fits)))))
    some_of_header (suc n) positive goes_on taken all = omega arith

    -- the front of what is held was taken
    pub held_header_taken : 0 < most → new.failed ≡ old.failed → (IsHeader before.fed → ⊥) → after.budget ≡ before.budget → after.refused ≡ None → FeedsFront before.fed (take most shown) after.fed n → GoesPastNoHeader after.fed →
        (n < length (take most shown) → IsHeader after.fed) → FeedsHeader old new limit before after (Ok tt)
    held_header_taken positive works goes_on budget reading taken in_header all =
        let le : n ≤ most = omega (arith, taken.0, length-take-le most shown fits) in
        let is : after.fed ≡ before.fed ++ take n shown = taken.1 ∙ ap (λ (xs : List ℕ). before.fed ++ xs) (take-take n most shown le) in
        let count : length (take n shown) ≡ n = length-take-le n shown (omega (arith, le, fits)) in
        let some : 0 < n = some_of_header n positive goes_on taken all in
        record {
          piece = take n shown;
          consumed = consumed;
          within = omega (arith, length-append before.fed (take n shown), count, le, within);
          in_header = subst GoesPastNoHeader is in_header;
          budget = budget;
          fed = (reading, is, omega (arith, count, some));
          works = works;
          stops = tt;
        }

    -- it was taken up to the end of the longword that is refused
    pub held_header_refused : (f : Fault) → length before.fed + n ≡ f.place + 4 → after.budget ≡ before.budget → StopsAtLongword before.budget before.fed (take most shown) f →
        ((at : ℕ) → ExceedsBudget before.budget (before.fed ++ take most shown) at → IsOverBudget at f) → IsTrue (is_of_header f.reason) → FeedsHeader old new limit before after (Err f)
    held_header_refused f ends kept stop over own =
        let size : length (take most shown) ≡ most = length-take-le most shown fits in
        let le : n ≤ most = omega (arith, ends, stop.inside, length-append before.fed (take most shown), size) in
        let count : length (take n shown) ≡ n = length-take-le n shown (omega (arith, le, fits)) in
        let same : take (f.place + 4) (before.fed ++ take most shown) ≡ before.fed ++ take n shown =
        ap (λ (k : ℕ). take k (before.fed ++ take most shown)) (sym ends)
        ∙ take-append-add before.fed (take most shown) n
        ∙ ap (λ (xs : List ℕ). before.fed ++ xs) (take-take n most shown le) in
        let fault : IsHeaderFault before.budget (before.fed ++ take n shown) f = subst (λ (bs : List ℕ). IsHeaderFault before.budget bs f) same stop.fault in
        let joined : (before.fed ++ take n shown) ++ drop n (take most shown) ≡ before.fed ++ take most shown =
        append_assoc before.fed (take n shown) (drop n (take most shown))
        ∙ ap (λ (xs : List ℕ). before.fed ++ (xs ++ drop n (take most shown))) (sym (take-take n most shown le))
        ∙ ap (λ (xs : List ℕ). before.fed ++ xs) (take-append-drop n (take most shown)) in
        record {
          piece = take n shown;
          consumed = consumed;
          within = omega (arith, length-append before.fed (take n shown), count, le, within);
          in_header = subst GoesPastNoHeader same stop.in_header;
          budget = kept;
          fed = tt;
          works = tt;
          stops = (
            inl
                (record {
                  fault = fault;
                  over =
                      λ at p.
                      over at
                      (subst (λ (bs : List ℕ). ExceedsBudget before.budget bs at) joined
                      (passes_more before.budget (before.fed ++ take n shown) (drop n (take most shown)) at p));
                  own_reasons = own;
                  begins = λ e. begins_row (before.fed ++ take n shown) f (omega (arith, length-append before.fed (take n shown), count, ends)) (header_wants f before.budget (before.fed ++ take n shown) e fault);
                }),
            λ judged. subst (λ (bs : List ℕ). IsPartAt sniffs.Load bs f.place parts.Header) same stop.part,
          );
        }
      where
        -- nothing follows the longword
        begins_row : (bytes : List ℕ) (f : Fault) → length bytes ≡ f.place + 4 → CompletesRow bytes f.place → IsHeaderFront bytes
        begins_row bytes f ends h =
            h.begins
            (λ t more is e. omega (arith, ends, ap length h.split, length-append (bytes_of (h.before ++ h.word ∷ [])) h.rest, length-bytes_of (h.before ++ h.word ∷ []), length-append h.before (h.word ∷ []), h.place))
