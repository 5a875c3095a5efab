-- An input that is judged as it comes.
use Rattle.std.proofs.Common.{◌≡◌, ◌∙◌, ◌<◌, ◌≤◌, ℕ, List, [], ◌∷◌, ◌++◌, length, true≢false, Result, Ok, Err, inl, refl, ap, ap₂, sym, subst, arith, length-append}
use Rattle.std.specs.Prelude.{IfErr, IsOk, IsTrue, OnOk}
use Rattle.hunk_words.specs.Longs.{bytes_of, longs}
use Rattle.hunk_words.proofs.LongLaws.{length-bytes_of}
use Rattle.hunk_grammar.specs.{FileKind.sniffed, declared.file_kind.Sniff.Sniff}
use Rattle.hunk_grammar.specs.declared.file_kind.Sniff.TheVariants as sniffs
use Rattle.hunk_files.specs.{Fault.{BeginsWithLoadFile, HasFault, is_load_refusal}, FileParts.IsPartAt, HunkFile.{AreFile, IsRefusal}, declared.refusal.Refusal.Refusal}
use Rattle.hunk_files.proofs.FileKinds.{no_load, not_object}
use Rattle.hunk_scatter.specs.{HeaderFaults.CompletesRow, LoadChecks.IsSummary, declared.load_check.LoadSummary.LoadSummary}
use Rattle.hunk_listing.specs.FileLines.{load_line, where_rest}
use Rattle.hunk_commands.specs.{Faults.IsWrite, Incoming.{AnnouncesLoad, AnnouncesObject}, Refusals.RefusesBytes, Validated.IsValidated}
use Rattle.hunk_commands.specs.declared.fault.RunFault.{RunFault, TheVariants.{Memory, RefusedIn}}

-- The first longword stays.
sniffed_more : (bytes more : List ℕ) → 4 ≤ length bytes → sniffed (longs (bytes ++ more)) ≡ sniffed (longs bytes)
sniffed_more [] more four = absurd (omega (arith, four))
sniffed_more (a ∷ []) more four = absurd (omega (arith, four))
sniffed_more (a ∷ b ∷ []) more four = absurd (omega (arith, four))
sniffed_more (a ∷ b ∷ c ∷ []) more four = absurd (omega (arith, four))
sniffed_more (a ∷ b ∷ c ∷ d ∷ bytes) more four = refl

pub announces_more : (bytes more : List ℕ) → AnnouncesLoad bytes → AnnouncesLoad (bytes ++ more)
announces_more bytes more h = (omega (arith, h.0, length-append bytes more), λ object. h.1 (sym (sniffed_more bytes more h.0) ∙ object))

pub object_more : (bytes more : List ℕ) → AnnouncesObject bytes → AnnouncesObject (bytes ++ more)
object_more bytes more h = (omega (arith, h.0, length-append bytes more), sniffed_more bytes more h.0 ∙ h.1)

-- ---- memory that is wanted

-- what holds of each error holds of an `Err`
pub of_err : {T E : Type 0} (P : E → Type 0) (result : Result T E) → ((error : E) → P error) → IfErr result P
of_err P (Ok value) holds = tt
of_err P (Err error) holds = holds error

-- Fewer than four bytes complete no row.
pub no_row : (front : List ℕ) (at : ℕ) → length front < 4 → CompletesRow front at → ⊥
no_row front at few h =
    omega (arith, few, ap length h.split, length-append (bytes_of (h.before ++ h.word ∷ [])) h.rest, length-bytes_of (h.before ++ h.word ∷ []), length-append h.before (h.word ∷ []))

-- A report wants none.
pub no_memory : {T : Type 0} (P : Type 0) (bytes : List ℕ) (result : Result T RunFault) → IfErr result (λ fault. ¬ IsWrite fault → RefusesBytes fault bytes) → IfErr result (λ fault. fault ≡ Memory → P)
no_memory P bytes (Ok value) refused = tt
no_memory P bytes (Err fault) refused = λ e. absurd (subst (λ (f : RunFault). RefusesBytes f bytes) e (refused (λ write. subst IsWrite e write)))

-- ---- what is reported

pub summed_up : (bytes : List ℕ) (s : LoadSummary) → IsSummary bytes s → IsValidated 0 bytes (load_line s.hunks s.bytes ++ where_rest s.rest)
summed_up bytes s h = inl (h.file, refl, ap₂ (λ (head rest : List ℕ). head ++ rest) (ap₂ load_line h.hunks h.declares) (ap where_rest h.follow))

pub load_refusal : (bytes : List ℕ) (refusal : Refusal) → (sniffed (longs bytes) ≡ sniffs.Object → ⊥) → HasFault bytes refusal.fault.place refusal.fault.reason → IsTrue (is_load_refusal refusal.fault.reason) →
    IsPartAt sniffs.Load bytes refusal.fault.place refusal.part → RefusesBytes (RefusedIn refusal) bytes
load_refusal bytes refusal announced fault own part =
    let is : IsRefusal sniffs.Load bytes refusal.fault × IsPartAt sniffs.Load bytes refusal.fault.place refusal.part = ((fault, own), part) in
    not_object (λ (kind : Sniff). IsRefusal kind bytes refusal.fault × IsPartAt kind bytes refusal.fault.place refusal.part) (sniffed (longs bytes)) announced is is is

pub no_file : (bytes : List ℕ) (refusal : Refusal) → (sniffed (longs bytes) ≡ sniffs.Object → ⊥) → (BeginsWithLoadFile bytes → ⊥) → AreFile bytes → ⊥
no_file bytes refusal announced none = no_load {T = Unit {0}} bytes (Err refusal) announced none

-- what holds of an `Ok`
pub of_ok : {T E P : Type 0} (result : Result T E) → IsOk result → OnOk result P → P
of_ok (Ok value) ok holds = holds
of_ok (Err error) ok holds = absurd (true≢false (sym ok))
