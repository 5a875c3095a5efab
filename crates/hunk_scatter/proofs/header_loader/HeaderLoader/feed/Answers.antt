use Rattle.std.proofs.Common.{rules, ◌≡◌, ◌<◌, ◌-◌, ◌++◌, None, drop, ◌∙◌, ℕ, List, Ok, Result, IfOk, refl, sym, ap, subst, take, length, append-nil, arith}
use Rattle.hunk_words.specs.declared.fault.Fault.{Fault}
use Rattle.hunk_grammar.specs.declared.file_kind.Sniff.TheVariants as sniffs
use Rattle.hunk_files.specs.FileParts.{IsPartAt}
use Rattle.hunk_files.specs.declared.part.Part.TheVariants as parts
use Rattle.hunk_scatter.specs.{HeaderBytes.{IsHeader, MayGoOnInHeader}, HeaderFaults.{ExceedsBudget, IsHeaderFault}}
use Rattle.hunk_scatter.specs.{HeaderLoaderFields.StopsInPiece, LoaderValues.HeaderLoaderValue, LoadOutcomes.GoesPastNoHeader}
use Rattle.hunk_scatter.proofs.{Faults.{rest_within, fed_on}, HeaderEnds.heading_ends, Feeding.rest_bytes, HeaderFields.piece_within}
use Rattle.hunk_scatter.proofs.HeaderFeeding.{stops_at}
use Rattle.hunk_scatter.proofs.HeaderStops.{stop_ends, stop_fault, stop_in_header, stop_over, stop_accepts, stops_on}
use Rattle.hunk_scatter.proofs.header_loader.HeaderLoader.feed.Goals.{else-loop-taken-test, then-loop-taken-test+in-Ok-eq0}
use Rattle.hunk_scatter.proofs.header_loader.HeaderLoader.feed.Goals as goal

pub loop-taken-preserved : goal.loop-taken-preserved
loop-taken-preserved c =
    let i = c.loop-taken.invariant in
    let e = c.in-Ok.ensures.feeds_or_stops in
    let fed = fed_on c.args.self.now.fed c.args.piece.now c.loop-taken.self.fed c.take_long.new.self.fed c.loop-taken.taken c.in-Ok.part i.fed_is e.taken.1 in
    let part : IsHeader c.args.self.now.fed → ⊥ =
    λ w.
    let none : c.loop-taken.taken ≡ 0 = i.complete w in
    let same : c.loop-taken.self.fed ≡ c.args.self.now.fed = i.fed_is ∙ ap (λ (n : ℕ). c.args.self.now.fed ++ take n c.args.piece.now) none ∙ append-nil c.args.self.now.fed in
    let zero : Ok c.in-Ok.part ≡ Ok 0 = e.complete (subst IsHeader (sym same) w) in
    let none_more : c.in-Ok.part ≡ 0 = subst (λ (r : Result ℕ Fault). IfOk r (λ n. n ≡ 0)) (sym zero) refl in
    omega (arith, none_more) in
    record {
      inside = rest_within c.args.piece.now c.loop-taken.taken c.in-Ok.part i.inside e.taken.0;
      fed_is = fed;
      budget_is = e.budget ∙ i.budget_is;
      reading = e.goes_on;
      complete = λ w. absurd (part w);
    }

pub returns-in-Err-clause-refusal : goal.returns-in-Err-clause-refusal
returns-in-Err-clause-refusal c none =
    let i = c.loop-taken.invariant in
    let s : StopsInPiece c.args.self.now.budget c.args.self.now.fed c.args.piece.now c.in-Err.fault = stops_on _ _ _ _ _ _ _ i.budget_is i.fed_is c.in-Err.ensures.feeds_or_stops.stops in
    subst (λ (bs : List ℕ). IsHeaderFault c.args.self.now.budget bs c.in-Err.fault) (sym s.2)
    (stop_fault _ s.0 s.1 c.in-Err.fault s.4 (rest_bytes c.args.self.now.fed c.args.piece.now s.0 s.1 (λ k. omega (arith, c.type_inv.piece k)) s.2 s.3))

pub returns-in-Err-clause-in_header : goal.returns-in-Err-clause-in_header
returns-in-Err-clause-in_header c none =
    let i = c.loop-taken.invariant in
    let s : StopsInPiece c.args.self.now.budget c.args.self.now.fed c.args.piece.now c.in-Err.fault = stops_on _ _ _ _ _ _ _ i.budget_is i.fed_is c.in-Err.ensures.feeds_or_stops.stops in
    subst (λ (bs : List ℕ). IsPartAt sniffs.Load bs c.in-Err.fault.place parts.Header) (sym s.2) (stop_in_header _ s.0 s.1 c.in-Err.fault s.4)

pub returns-in-Err-clause-passes_budget : goal.returns-in-Err-clause-passes_budget
returns-in-Err-clause-passes_budget c none at p =
    let i = c.loop-taken.invariant in
    let s : StopsInPiece c.args.self.now.budget c.args.self.now.fed c.args.piece.now c.in-Err.fault = stops_on _ _ _ _ _ _ _ i.budget_is i.fed_is c.in-Err.ensures.feeds_or_stops.stops in
    stop_over _ s.0 s.1 c.in-Err.fault s.4 at (subst (λ (bs : List ℕ). ExceedsBudget c.args.self.now.budget bs at) s.2 p)

pub returns-in-Err-clause-accepts : goal.returns-in-Err-clause-accepts
returns-in-Err-clause-accepts c none m =
    let i = c.loop-taken.invariant in
    let s : StopsInPiece c.args.self.now.budget c.args.self.now.fed c.args.piece.now c.in-Err.fault = stops_on _ _ _ _ _ _ _ i.budget_is i.fed_is c.in-Err.ensures.feeds_or_stops.stops in
    stop_accepts _ s.0 s.1 c.in-Err.fault s.4 (subst MayGoOnInHeader s.2 m)

pub returns-in-Err-clause-out_of_memory : goal.returns-in-Err-clause-out_of_memory
returns-in-Err-clause-out_of_memory c none e =
    let i = c.loop-taken.invariant in
    let s : StopsInPiece c.args.self.now.budget c.args.self.now.fed c.args.piece.now c.in-Err.fault = stops_on _ _ _ _ _ _ _ i.budget_is i.fed_is c.in-Err.ensures.feeds_or_stops.stops in
    omega (arith, s.3, stop_ends _ s.0 s.1 c.in-Err.fault s.4)

pub returns-in-Err-clause-at_longword : goal.returns-in-Err-clause-at_longword
returns-in-Err-clause-at_longword c none =
    let i = c.loop-taken.invariant in
    stops_at c.args.self.now.budget c.args.self.now.fed c.args.piece.now c.in-Err.fault (stops_on _ _ _ _ _ _ _ i.budget_is i.fed_is c.in-Err.ensures.feeds_or_stops.stops)

-- what is known after the loop: all of the piece was taken, or the header is whole
abbrev Ended : HeaderLoaderValue → List ℕ → ℕ → HeaderLoaderValue → Type 0
Ended old piece taken v = (v.fed ≡ old.fed ++ take taken piece) × (v.budget ≡ old.budget) × (v.refused ≡ None) × (taken < length piece → IsHeader v.fed)

ended : (c : goal.After-self-2-1) → Ended c.args.self.now c.args.piece.now c.loop-taken.taken c.loop-taken-test.self
ended c =
    let i = c.loop-taken.invariant in
    elim c.loop-taken-test.branch [
      | else-loop-taken-test w ↦ rw w.self-is (i.fed_is, i.budget_is, i.reading, λ less. absurd (omega (arith, less, w.loop-taken-test)))
      | then-loop-taken-test+in-Ok-eq0 w ↦
          let e = w.in-Ok-eq0.ensures.feeds_or_stops in
          let rest = take (length c.args.piece.now - c.loop-taken.taken) (drop c.loop-taken.taken c.args.piece.now) in
          let none : w.in-Ok-eq0.field-0 ≡ 0 = search rules in
          let same : w.take_long.new.self.fed ≡ c.loop-taken.self.fed = e.taken.1 ∙ ap (λ (n : ℕ). c.loop-taken.self.fed ++ take n rest) none ∙ append-nil c.loop-taken.self.fed in
          let whole : Ok w.in-Ok-eq0.field-0 ≡ Ok 0 = ap (λ (n : ℕ). Ok n) none in
          rw w.self-is (same ∙ i.fed_is, e.budget ∙ i.budget_is, e.goes_on, λ less. w.in-Ok-eq0.ensures.ends whole)
    ]

pub returns-clause-passes_budget : goal.returns-clause-passes_budget
returns-clause-passes_budget c none at p =
    let e = ended c in
    let fed = ap (λ (v : HeaderLoaderValue). v.fed) c.self-2.view_is in
    let budget = ap (λ (v : HeaderLoaderValue). v.budget) c.self-2.view_is ∙ e.1 in
    piece_within _ _ _ _ c.args.self.now.fed c.args.piece.now _ c.loop-taken.taken
    (c.self-2.invariant.reading (ap (λ (v : HeaderLoaderValue). v.refused) c.self-2.view_is ∙ e.2))
    c.loop-taken.invariant.inside (fed ∙ e.0)
    (λ less. subst IsHeader (sym fed) (e.3 less)) at
    (subst (λ (b : ℕ). ExceedsBudget b (c.args.self.now.fed ++ c.args.piece.now) at) (sym budget) p)

pub returns-clause-inside_header : goal.returns-clause-inside_header
returns-clause-inside_header c =
    let e = ended c in
    subst GoesPastNoHeader (ap (λ (v : HeaderLoaderValue). v.fed) c.self-2.view_is)
    (heading_ends _ _ _ _ _ (c.self-2.invariant.reading (ap (λ (v : HeaderLoaderValue). v.refused) c.self-2.view_is ∙ e.2)))
