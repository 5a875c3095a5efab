use Rattle.std.proofs.Common.{◌≡◌, ◌+◌, ◌++◌, ◌∙◌, ℕ, Bool, true, false, List, [], Result, Ok, Err, length, inl, refl, sym, ap, subst, arith}
use Rattle.std.proofs.KnownBytes.{Consumes-trans}
use Rattle.std.specs.{Prelude.{IfErr, IsErrAnd, MatchResult}, Io.KnownBytes.Consumes}
use Rattle.hunk_words.specs.{Carriers.Supply, Classes.class_by, declared.fault.Fault.Fault, declared.reason.Reason.Reason}
use Rattle.hunk_words.specs.declared.class.Class.TheVariants as classes
use Rattle.hunk_words.specs.declared.reason.Reason.TheVariants as reasons
use Rattle.hunk_files.specs.{LoadFile.TableEntry, declared.part.Part.Part}
use Rattle.hunk_scatter.specs.{HeaderFaults.IsOverBudget, LoaderValues.ImageValue}
use Rattle.hunk_scatter.specs.{LoadRefusals.{IsFaultIn, LoadsOrNames, NamesPart, fault_of, without_part}, declared.load_refusal.LoadRefusal.LoadRefusal, LoadOutcomes.{Gives, GivesAtMost, HasFileWithin, IsAllShown, TakesNoFurther, IsHeaderWithin, GoesPastNoFile, GoesPastNoHeader, PassesBudget, KeepsToHeader, LoadEnds, LoadStop, InHeader, Between, StopsAfterFile, StopsAfterHeader, TellsFailure}}
use Rattle.hunk_scatter.specs.{Placing.{Placing, IsUnplacedFor}, declared.loading.Limits.Limits}
use Rattle.hunk_scatter.proofs.HeaderFronts.{within_file}
use Rattle.hunk_scatter.proofs.LoadEnding.{ends_body, body_keeps, has_bases, file_loads, budget_stops, ends_loads}
use Rattle.hunk_scatter.proofs.LoadLaws.{keeps_file, keeps_header}
use Rattle.hunk_scatter.proofs.loading.load_naming_part.Goals as goal

-- what a load promises that has given these bytes, by how it ends
module _ (base : Placing) (limits : Limits) (old new : Supply) (shown : List ℕ) (result : Result ImageValue LoadRefusal) where
  abbrev KeepsBack : Type 0
  KeepsBack = IsAllShown old shown → IfErr (without_part result) (λ f. GivesAtMost old new (f.place + 4))

  abbrev Promised : Type 0
  Promised = record {
    loads : LoadsOrNames base limits old new result;
    one_file : StopsAfterFile old new;
    header_first : StopsAfterHeader base limits.budget old new;
    no_further : KeepsBack;
    succeeds : HasFileWithin base limits old → new.failed ≡ false → IfErr (without_part result) (λ f. f.reason ≡ reasons.OutOfMemory);
    over_budget : (at : ℕ) → PassesBudget limits old new at → IsErrAnd (without_part result) (IsOverBudget at);
    tells_read : TellsFailure old new (without_part result);
  }

  promised : (given : List ℕ) → Gives old new limits.file_bytes given → GoesPastNoFile given → KeepsToHeader base limits.budget given →
      LoadEnds base limits new given (without_part result) → IfErr result (NamesPart given) → TellsFailure old new (without_part result) → KeepsBack → Promised
  promised given gives in_file keeps ends names tells back = record {
    loads = ends_loads base limits old new given result gives ends names;
    one_file = keeps_file old new limits.file_bytes given gives in_file;
    header_first = keeps_header base limits.budget old new limits.file_bytes given gives keeps;
    no_further = back;
    succeeds = λ h works. file_loads _ _ _ _ given gives in_file works h.value h.rest h.is_load_file h.split h.fits h.within h.bases (without_part result) ends;
    over_budget = λ at (input, d, works, p). budget_stops _ _ _ _ given gives in_file works input d at p (without_part result) ends;
    tells_read = tells;
  }

gives_at_most : (old new : Supply) (f : Fault) → TakesNoFurther old new [] f → GivesAtMost old new (f.place + 4)
gives_at_most old new f (given, consumed, within) = (given, record { consumed = consumed; within = within })

-- It stopped before the body, for this fault.
stopped : (base : Placing) (limits : Limits) (old new : Supply) (shown given : List ℕ) (fault : Fault) (refusal : LoadRefusal) → fault_of refusal ≡ fault → Gives old new limits.file_bytes given → GoesPastNoHeader given →
    LoadStop base limits new given fault → NamesPart given refusal → TellsFailure {T = ImageValue} old new (Err fault) →
    (IsAllShown old shown → TakesNoFurther old new [] fault) → Promised base limits old new shown (Err refusal)
stopped base limits old new shown given fault refusal same gives in_header stop names tells back =
    promised base limits old new shown (Err refusal) given gives (within_file given in_header) (λ t more is d. inl (in_header t more is d))
    (subst (LoadStop base limits new given) (sym same) stop) names
    (subst (λ (f : Fault). TellsFailure {T = ImageValue} old new (Err f)) (sym same) tells)
    (λ all. subst (λ (f : Fault). GivesAtMost old new (f.place + 4)) (sym same) (gives_at_most old new fault (back all)))

pub returns-in-Err : goal.returns-in-Err
returns-in-Err g c =
    let e = c.in-Err.ensures.ends in
    stopped (g.P.Placer.base c.args.p.now) c.args.limits (g.R.Source.supply c.args.r.now) (g.R.Source.supply c.load_header.new.r) (g.R.Source.shown c.args.r.now) e.0 c.in-Err.fault c.in_part.result c.in_part.ensures.fault
    e.1 e.2 (InHeader e.3.0) (c.in_part.ensures.names e.0 e.3.1) c.in-Err.ensures.tells_read c.in-Err.ensures.no_further

-- a hunk that is not placed is no fault of the file
unplaced_in : (base : Placing) (t : List TableEntry) (given : List ℕ) (part : Part) (f : Fault) → IsUnplacedFor base t f.reason → IsFaultIn given part f
unplaced_in base t given part f u judged = absurd (go f.reason u judged)
  where
    go : (r : Reason) → IsUnplacedFor base t r → (class_by f.place r ≡ classes.NotJudged → ⊥) → ⊥
    go (reasons.NoBase hunk) u judged = judged refl
    go reasons.OutOfMemory u judged = judged refl
    go _ u judged = u

pub returns-in-Err-place : goal.returns-in-Err-place
returns-in-Err-place g c =
    let e = c.in-Ok.ensures.ends in
    let base = g.P.Placer.base c.args.p.now in
    let h : IsHeaderWithin c.args.limits.budget e.0 c.in-Ok.declared.table = record { is_table = e.3.0; header = e.3.1; within = e.3.2 } in
    let fault : Fault = record { place = c.header_len-place.result; reason = c.in-Err-place.unplaced.reason } in
    stopped base c.args.limits (g.R.Source.supply c.args.r.now) (g.R.Source.supply c.load_header.new.r) (g.R.Source.shown c.args.r.now) e.0 fault c.in_part-in-Err-place.result c.in_part-in-Err-place.ensures.fault
    e.1 e.2 (Between c.in-Ok.declared.table h c.in-Err-place.ensures.reason (c.header_len-place.ensures ∙ ap length (sym e.3.1)))
    (c.in_part-in-Err-place.ensures.names e.0 (unplaced_in base c.in-Ok.declared.table e.0 _ fault c.in-Err-place.ensures.reason))
    (λ fresh fails. absurd (c.in-Ok.ensures.tells_read fresh fails))
    (λ all. (e.0, e.1.consumed, omega (arith, c.header_len-place.ensures, ap length e.3.1)))

pub load_body-requires-clause-in_file : goal.load_body-requires-clause-in_file
load_body-requires-clause-in_file g c =
    let e = c.in-Ok.ensures.ends in
    subst GoesPastNoFile (e.3.1 ∙ sym c.in-Ok-place.ensures.fed) (within_file e.0 e.2)

not_true : (b : Bool) → (b ≡ true → ⊥) → b ≡ false
not_true true h = absurd (h refl)
not_true false h = refl

-- how the body ends, and the part that is named
both : (P : ImageValue → Type 0) (Q : Fault → Type 0) (N : LoadRefusal → Type 0) (result : Result ImageValue LoadRefusal) → MatchResult result P (λ r. Q (fault_of r) × N r) → MatchResult (without_part result) P Q × IfErr result N
both P Q N (Ok image) h = (h, tt)
both P Q N (Err refusal) h = h

-- of header and body together
body_at_most : (old mid new : Supply) (header : List ℕ) (result : Result ImageValue LoadRefusal) → Consumes old.left mid.left header → IfErr (without_part result) (TakesNoFurther mid new header) →
    IfErr (without_part result) (λ f. GivesAtMost old new (f.place + 4))
body_at_most old mid new header (Ok image) c t = tt
body_at_most old mid new header (Err refusal) c (more, d, within) = (header ++ more, record { consumed = Consumes-trans _ _ _ header more c d; within = within })

pub returns : goal.returns
returns g c =
    let e = c.in-Ok.ensures.ends in
    let b = c.load_body.ensures.ends in
    let ends = both _ _ _ c.load_body.result b.4 in
    let same : e.0 ≡ c.in-Ok-place.loader.fed = e.3.1 ∙ sym c.in-Ok-place.ensures.fed in
    let h : IsHeaderWithin c.args.limits.budget c.in-Ok-place.loader.fed c.in-Ok.declared.table = record { is_table = e.3.0; header = c.in-Ok-place.ensures.fed; within = e.3.2 } in
    let gives : Gives (g.R.Source.supply c.args.r.now) (g.R.Source.supply c.load_body.new.r) c.args.limits.file_bytes (c.in-Ok-place.loader.fed ++ b.0) = record {
      consumed = Consumes-trans _ _ _ c.in-Ok-place.loader.fed b.0 (subst (Consumes (g.R.Source.supply c.args.r.now).left (g.R.Source.supply c.load_header.new.r).left) same e.1.consumed) b.1;
      within = b.2;
    } in
    promised (g.P.Placer.base c.args.p.now) c.args.limits (g.R.Source.supply c.args.r.now) (g.R.Source.supply c.load_body.new.r) (g.R.Source.shown c.args.r.now)
    c.load_body.result (c.in-Ok-place.loader.fed ++ b.0) gives b.3
    (body_keeps (g.P.Placer.base c.args.p.now) c.args.limits.budget c.in-Ok.declared.table c.in-Ok-place.loader.fed b.0 h (has_bases _ _ _ c.in-Ok-place.ensures.bases))
    (ends_body _ _ _ c.in-Ok.declared.table c.in-Ok-place.loader.fed b.0 c.in-Ok-place.loader.rows (without_part c.load_body.result) h c.in-Ok-place.ensures.rows c.in-Ok-place.ensures.bases ends.0)
    ends.1
    (λ fresh fails. c.load_body.ensures.tells_read (not_true _ (λ e. c.in-Ok.ensures.tells_read fresh e)) fails)
    (λ all. body_at_most (g.R.Source.supply c.args.r.now) (g.R.Source.supply c.load_header.new.r) (g.R.Source.supply c.load_body.new.r) c.in-Ok-place.loader.fed c.load_body.result (subst (Consumes (g.R.Source.supply c.args.r.now).left (g.R.Source.supply c.load_header.new.r).left) same e.1.consumed)
    (c.load_body.ensures.no_further (c.in-Ok.ensures.shows all)))
