-- What the fault of a load is to a run.
use Rattle.std.proofs.Common.{◌≡◌, ◌⊎◌, ◌∙◌, ℕ, List, Result, Ok, Err, inl, inr, ap, ap₂, refl, sym, subst}
use Rattle.hunk_words.specs.{Carriers.{Outlet, Supply, Writing}, Classes.class_by, Puts.PutsText}
use Rattle.hunk_words.specs.{declared.long_writer.WriteFault.WriteFault, declared.reason.Reason.Reason}
use Rattle.hunk_words.specs.declared.class.Class.TheVariants as classes
use Rattle.hunk_words.specs.declared.reason.Reason.TheVariants as reasons
use Rattle.hunk_scatter.specs.{HeaderFaults.IsOverBudget, LoadOutcomes.Loads, LoaderValues.ImageValue, LoadRefusals.{LoadsOrNames, NamesPart, fault_of}, Placing.packed_from, Rows.bases_of, declared.load_refusal.LoadRefusal.LoadRefusal, declared.load_refusal.LoadRefusal.TheVariants.{Judged, NotJudged}, declared.loading.Limits.Limits}
use Rattle.hunk_listing.specs.SegmentLines.{segment_listing}
use Rattle.hunk_commands.specs.{declared.fault.RunFault.RunFault, declared.fault.RunFault.TheVariants.{Memory, Refused, Write}, Faults.{IsWrite, load_refused, refused_for}, Relocating.{IsListingOf, Relocates, image_listing, segments_of}}

-- a load's refusal is none of writing
not_write : (refusal : LoadRefusal) → IsWrite (load_refused refusal) → ⊥
not_write (Judged refusal) e = e
not_write (NotJudged fault) e = by_reason fault.reason e
  where
    by_reason : (reason : Reason) → IsWrite (refused_for reason fault) → ⊥
    by_reason reasons.OutOfMemory e = e
    by_reason reasons.Read e = e
    by_reason _ e = e

no_write : (refusal : LoadRefusal) (written : ℕ) → Write written ≡ load_refused refusal → ⊥
no_write refusal written is = not_write refusal (subst IsWrite is tt)

-- for a reason for which the file is not judged
pub told_for : (given : List ℕ) (refusal : LoadRefusal) → NamesPart given refusal → (reason : Reason) → class_by (fault_of refusal).place reason ≡ classes.NotJudged → (fault_of refusal).reason ≡ reason → load_refused refusal ≡ refused_for reason (fault_of refusal)
told_for given (Judged refusal) names reason not is = absurd (names.0 (ap (class_by refusal.fault.place) is ∙ not))
told_for given (NotJudged fault) names reason not is = ap (λ (r : Reason). refused_for r fault) is

pub over_of : (given : List ℕ) (refusal : LoadRefusal) → NamesPart given refusal → (at : ℕ) → IsOverBudget at (fault_of refusal) → (load_refused refusal ≡ Memory) ⊎ (load_refused refusal ≡ Refused (record { place = at; reason = reasons.Budget }))
over_of given refusal names at (inl (is, there)) =
    inr (told_for given refusal names reasons.Budget refl is ∙ ap₂ (λ (p : ℕ) (r : Reason). Refused (record { place = p; reason = r })) there is)
over_of given refusal names at (inr (is, before)) = inl (told_for given refusal names reasons.OutOfMemory refl is)

-- ---- what `relocate` comes to

module _ {W : Type 0} (outlet : W → Outlet) (start : ℕ) (limits : Limits) (before after : Supply) (old : Writing W) where
  -- nothing was loaded
  pub load_stops : {T : Type 0} {f : LoadRefusal} → LoadsOrNames (packed_from start) limits before after (Err f) → (result : Result T RunFault) → ((y : RunFault) × (result ≡ Err y) × (y ≡ load_refused f)) →
      Relocates outlet start limits before after old old result
  load_stops {T} {f} loads result p =
      subst (λ (r : Result T RunFault). Relocates outlet start limits before after old old r) (sym (p.1 ∙ ap Err p.2)) (record {
        given = loads.loads.given;
        gives = loads.loads.gives;
        done = tt;
        no_failure = tt;
        write = λ written same. absurd (no_write f written (sym same));
        fails = record { broken = λ written. absurd (not_write f written); untouched = λ _. refl };
        stops = λ _. record { refusal = f; told = refl; names = loads.names; is_fault = loads.loads.outcome; of_file = loads.loads.of_file };
      })

  module _ (new : Writing W) (image : ImageValue) (load : LoadsOrNames (packed_from start) limits before after (Ok image)) where
    loads : Loads (packed_from start) limits before after (Ok image)
    loads = load.loads

    listing : IsListingOf start limits.budget loads.given (image_listing image)
    listing = record {
      file = loads.outcome.0;
      is_listing = record {
        is_file = loads.outcome.1.is_load_file;
        within = loads.outcome.1.within;
        bases = bases_of image.rows;
        are_bases = loads.outcome.1.bases;
        listing_is = ap (λ (ss : List (List ℕ)). segment_listing (segments_of (bases_of image.rows) ss)) loads.outcome.1.segments;
      };
      given_is = loads.outcome.2;
    }

    -- all of the listing was put
    pub wrote_all : {S T : Type 0} {value : T} (done : S) → PutsText {T = S} outlet old new (image_listing image) (Ok done) → Relocates {T = T} outlet start limits before after old new (Ok value)
    wrote_all done p = record {
      given = loads.given;
      gives = loads.gives;
      done = (record { text = image_listing image; is_text = listing; puts = p.puts }, p.all);
      no_failure = p.no_failure;
      write = tt;
      fails = tt;
      stops = tt;
    }

    -- its first bytes were
    pub wrote_first : {S T : Type 0} (fault : WriteFault) → PutsText {T = S} outlet old new (image_listing image) (Err fault) → (result : Result T RunFault) →
        ((y : RunFault) × (result ≡ Err y) × (y ≡ Write fault.written)) → Relocates outlet start limits before after old new result
    wrote_first {S} {T} fault p result e =
        subst (λ (r : Result T RunFault). Relocates outlet start limits before after old new r) (sym (e.1 ∙ ap Err e.2)) (record {
          given = loads.given;
          gives = loads.gives;
          done = tt;
          no_failure = tt;
          write = λ written same. (let is_count : written ≡ fault.written = cc in is_count ∙ p.counted, record { text = image_listing image; is_text = listing; puts = p.puts });
          fails = record { broken = λ _. p.broken; untouched = λ other. absurd (other tt) };
          stops = λ other. absurd (other tt);
        })
