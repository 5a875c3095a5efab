-- A fault of reading is answered where the source has failed, and nowhere else.
use Rattle.std.proofs.Common.{◌≡◌, ◌∙◌, ℕ, Bool, false, true, true≢false, List, Option, Result, Ok, Err, inl, inr, ap, refl, subst, sym}
use Rattle.std.specs.Prelude.{◌↔◌, IfErr, IsErrAnd, is_some}
use Rattle.std.proofs.lemmas.Result.{IfErr-weaker, IfOk-weaker}
use Rattle.std.specs.declared.io.Error.{Error}
use Rattle.hunk_words.specs.Carriers.{Outlet, Supply, Writing}
use Rattle.hunk_words.specs.declared.fault.Fault.{Fault}
use Rattle.hunk_words.specs.declared.reason.Reason.{Reason}
use Rattle.hunk_words.specs.declared.reason.Reason.TheVariants as reasons
use Rattle.hunk_scatter.specs.LoadOutcomes.{Gives, IsLoadFault, IsLoadFaultBy}
use Rattle.hunk_scatter.specs.LoadRefusals.{fault_of}
use Rattle.hunk_scatter.specs.Placing.{Placing, packed_from}
use Rattle.hunk_scatter.specs.declared.load_refusal.LoadRefusal.{LoadRefusal}
use Rattle.hunk_scatter.specs.declared.load_refusal.LoadRefusal.TheVariants.{Judged, NotJudged}
use Rattle.hunk_scatter.specs.declared.loading.Limits.{Limits}
use Rattle.hunk_wide.specs.Plain.{plain}
use Rattle.hunk_wide.specs.declared.spelling.Spelling.{Spelling}
use Rattle.hunk_commands.specs.Faults.{IsWrite, load_refused, refused_for}
use Rattle.hunk_commands.specs.Inputs.{ReadsInVain, TellsReading}
use Rattle.hunk_commands.specs.declared.fault.RunFault.{RunFault}
use Rattle.hunk_commands.specs.declared.fault.RunFault.TheVariants.{HexText, Memory, Read, Refused, RefusedIn, Write}
use Rattle.hunk_run.specs.Asked.{AnswersListing, AsksListing, HasAsked, ListsAsked, StopsAsked}
use Rattle.hunk_run.specs.Inputs.{slice, unread}
use Rattle.hunk_run.specs.Refusals.{IsRead, StopsListing, StopsSource, failed_reading}
use Rattle.hunk_run.specs.Stores.{Leaves}
use Rattle.hunk_run.specs.Wide.{StopsBytes, StopsWide, placed}
use Rattle.hunk_run.specs.declared.listing.Listing.{Listing}
use Rattle.hunk_run.specs.declared.listing.Listing.TheVariants as listings
use Rattle.hunk_run.proofs.Plainly.{asked_left}

-- ---- where it is answered the source has failed, and it was read up to there

load_failed : (base : Placing) (limits : Limits) (before after : Supply) (given : List ℕ) (refusal : Fault) (place : ℕ) (reason : Reason) → Gives before after limits.file_bytes given →
    Read place ≡ refused_for reason refusal → IsLoadFaultBy reason base limits after given refusal.place → ReadsInVain (Read place) before after limits.file_bytes
load_failed base limits before after given refusal place reasons.Read gives told is =
    let same : refusal.place ≡ place = cc in (is.1, (given, gives.consumed, sym is.0 ∙ same))
load_failed base limits before after given refusal place reasons.OutOfMemory gives told is = absurd (cc told)
load_failed base limits before after given refusal place _ gives told is = absurd (cc told)

pub listing_failed : (listing : Listing) (before after : Supply) (most place : ℕ) → StopsListing listing before after most (Read place) → ReadsInVain (Read place) before after most
listing_failed listings.Show before after most place (inl in_vain) = in_vain
listing_failed listings.Show before after most place (inr input) = absurd input.holds
listing_failed listings.Validate before after most place (inl in_vain) = in_vain
listing_failed listings.Validate before after most place (inr input) = absurd input.holds
listing_failed (listings.Relocate base budget) before after most place (given, gives, stops) = by_refusal stops.refusal stops.told stops.is_fault
  where
    by_refusal : (refusal : LoadRefusal) → Read place ≡ load_refused refusal →
        IsLoadFault (packed_from base) (record { budget = budget; file_bytes = most }) after given (fault_of refusal) → ReadsInVain (Read place) before after most
    by_refusal (Judged refusal) told is = absurd (cc told)
    by_refusal (NotJudged fault) told is = load_failed (packed_from base) (record { budget = budget; file_bytes = most }) before after given fault place fault.reason gives told is

-- a source that is read through a slice has not failed
slice_sound : (listing : Listing) (bytes rest : List ℕ) (most place : ℕ) → StopsListing listing (slice bytes) (slice rest) most (Read place) → ⊥
slice_sound listing bytes rest most place stops = true≢false (sym (listing_failed listing (slice bytes) (slice rest) most place stops).0)

source_failed : (hex : Bool) (listing : Listing) (before after : Supply) (most place : ℕ) → StopsSource hex listing before after most (Read place) → after.failed ≡ true
source_failed false listing before after most place stops = (listing_failed listing before after most place stops).0
source_failed true listing before after most place (inl in_vain) = in_vain.0
source_failed true listing before after most place (inr spelled) = absurd (slice_sound listing spelled.bytes spelled.rest most place spelled.stops)

bytes_sound : (listing : Listing) (bytes : List ℕ) (most place : ℕ) → StopsBytes listing bytes most (Read place) → ⊥
bytes_sound listings.Show bytes most place stops = stops
bytes_sound listings.Validate bytes most place stops = stops
bytes_sound (listings.Relocate base budget) bytes most place (rest, stops) = slice_sound (listings.Relocate base budget) bytes rest most place stops

-- what is told of a plain spelling as a fault of reading was one before
placed_read : (input : List ℕ) (own : RunFault) (place : ℕ) → Read place ≡ placed input own → own ≡ Read place
placed_read input (Read own) place told = sym told
placed_read input Memory place told = absurd (cc told)
placed_read input HexText place told = absurd (cc told)
placed_read input (Write written) place told = absurd (cc told)
placed_read input (Refused refusal) place told = absurd (cc told)
placed_read input (RefusedIn refusal) place told = absurd (cc told)

wide_failed : (hex : Bool) (listing : Listing) (before after : Supply) (most place : ℕ) → StopsWide hex listing before after most (Read place) → after.failed ≡ true
wide_failed true listing before after most place (inl in_vain) = in_vain.0
wide_failed false listing before after most place (inl in_vain) = in_vain.0
wide_failed hex listing before after most place (inr (input, read, stops)) =
    let own = placed_read input stops.own place stops.told in
    absurd (elim stops.stops [
      | inl none ↦ elim none [ inl memory ↦ cc (sym memory ∙ own) | inr long ↦ cc (sym long.0 ∙ own) ]
      | inr refused ↦ bytes_sound listing (plain input) most place (subst (λ (f : RunFault). StopsBytes listing (plain input) most f) own refused)
    ])

asked_failed : (hex wide : Bool) (listing : Listing) (before after : Supply) (most : ℕ) (fault : RunFault) → StopsAsked hex wide listing before after most fault →
    IsRead fault → after.failed ≡ true
asked_failed hex false listing before after most fault stops (place, is) =
    source_failed hex listing before after most place (subst (λ (f : RunFault). StopsSource hex listing before after most f) is stops)
asked_failed hex true listing before after most fault stops (place, is) =
    wide_failed hex listing before after most place (subst (λ (f : RunFault). StopsWide hex listing before after most f) is stops)

-- ---- whether the source has failed is whether the answer is such a fault

not_write : (fault : RunFault) → IsRead fault → ¬ IsWrite fault
not_write fault (place, is) = λ write. subst IsWrite is write

-- the source has failed where this is so
failed_as : {T : Type 0} (result : Result T RunFault) (failed : Bool) → (failed ≡ true → IsErrAnd result IsRead) → IfErr result (λ fault. IsRead fault → failed ≡ true) →
    failed ≡ failed_reading result
failed_as (Err (Read place)) failed tells fails = fails (place, refl)
failed_as (Ok value) true tells fails = absurd (tells refl)
failed_as (Ok value) false tells fails = refl
failed_as (Err Memory) true tells fails = absurd (cc (tells refl).1)
failed_as (Err Memory) false tells fails = refl
failed_as (Err HexText) true tells fails = absurd (cc (tells refl).1)
failed_as (Err HexText) false tells fails = refl
failed_as (Err (Write written)) true tells fails = absurd (cc (tells refl).1)
failed_as (Err (Write written)) false tells fails = refl
failed_as (Err (Refused refusal)) true tells fails = absurd (cc (tells refl).1)
failed_as (Err (Refused refusal)) false tells fails = refl
failed_as (Err (RefusedIn refusal)) true tells fails = absurd (cc (tells refl).1)
failed_as (Err (RefusedIn refusal)) false tells fails = refl

module _ {T : Type 0} (before after : Supply) (result : Result T RunFault) (fresh : before.failed ≡ false) (tells : TellsReading before after result) where
  pub failed_where : (Stops : RunFault → Type 0) → ((fault : RunFault) → Stops fault → IsRead fault → after.failed ≡ true) →
      IfErr result (λ fault. ¬ IsWrite fault → Stops fault) → after.failed ≡ failed_reading result
  failed_where Stops failed stops = failed_as result after.failed (tells fresh) (IfErr-weaker result _ _ (λ fault stop read. failed fault (stop (not_write fault read)) read) stops)

-- a cause is told where the source has failed
pub reads_where : {T : Type 0} (result : Result T RunFault) (cause : Option Error) → is_some cause ≡ failed_reading result → is_some cause ≡ true ↔ IsErrAnd result IsRead
reads_where (Err (Read place)) cause is = (λ some. (place, refl), λ read. is)
reads_where (Ok value) cause is = (λ some. absurd (true≢false (sym some ∙ is)), λ read. absurd read)
reads_where (Err Memory) cause is = (λ some. absurd (true≢false (sym some ∙ is)), λ read. absurd (cc read.1))
reads_where (Err HexText) cause is = (λ some. absurd (true≢false (sym some ∙ is)), λ read. absurd (cc read.1))
reads_where (Err (Write written)) cause is = (λ some. absurd (true≢false (sym some ∙ is)), λ read. absurd (cc read.1))
reads_where (Err (Refused refusal)) cause is = (λ some. absurd (true≢false (sym some ∙ is)), λ read. absurd (cc read.1))
reads_where (Err (RefusedIn refusal)) cause is = (λ some. absurd (true≢false (sym some ∙ is)), λ read. absurd (cc read.1))

-- ---- what comes of a source is what comes of the input that it was opened for

module _ {W : Type 0} (outlet : W → Outlet) (hex wide : Bool) (listing : Listing) (before after : Supply) (most : ℕ) (old new : Writing W) (result : Result ℕ RunFault)
    (spelling : Option Spelling) (asks : AsksListing outlet hex wide listing before after most old new result spelling)
    (known left : Option (List ℕ)) (leaves : Leaves known left) (is : before ≡ unread left) where
  pub failed_listing : after.failed ≡ failed_reading result
  failed_listing =
      failed_where before after result (ap (λ (s : Supply). s.failed) is) asks.tells_read (StopsAsked hex wide listing before after most)
      (asked_failed hex wide listing before after most) asks.stops

  pub answers_input : (cause : Option Error) → is_some cause ≡ after.failed → AnswersListing outlet hex wide listing known most old new result cause
  answers_input cause told = record {
    outcome = asks.outcome;
    done = IfOk-weaker result _ _ (λ status lists. (left, leaves, (after, subst (λ (s : Supply). ListsAsked outlet hex wide status listing s after old new) is lists))) asks.done;
    stops = IfErr-weaker result _ _
        (λ fault stop other. inr (inr (left, leaves, (after, subst (λ (s : Supply). StopsAsked hex wide listing s after most fault) is (stop other))))) asks.stops;
    reads = reads_where result cause (told ∙ failed_listing);
    succeeds = λ has none works.
        asks.succeeds (subst (λ (s : Supply). HasAsked hex wide listing s most) (sym is) (asked_left hex wide listing known left most leaves has))
        (sym told ∙ ap (λ (c : Option Error). is_some c) none) works;
  }
