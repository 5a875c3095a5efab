-- Bytes are an object file or have a fault.
use Rattle.std.proofs.Common.{◌≡◌, ◌≢◌, ℕ, ◌*◌, ◌<◌, List, [], ◌∷◌, ◌++◌, length, refl, sym, ap, subst, ◌∙◌, append-nil, length-append, arith, None, ◌⊎◌, inl, inr}
use Rattle.hunk_words.specs.{declared.reason.Reason.Reason, Longs.{longs, bytes_of, IsLong, AreLongs, IsBytes}}
use Rattle.hunk_words.specs.declared.reason.Reason.TheVariants as reasons
use Rattle.hunk_words.proofs.LongLaws.{length-bytes_of, longs_fit, spelled}
use Rattle.hunk_blocks.specs.Faults.{Expects, IsFront}
use Rattle.hunk_blocks.proofs.Outcomes.{Keeps, state_after, leads_state, front, judged, completed}
use Rattle.hunk_files.specs.ObjectFile.{ObjectFileValue, IsObjectFile, IsNoObjectFile, object_text}
use Rattle.hunk_grammar.specs.declared.object_position.WordPlace.TheVariants.{BeforeUnits, BetweenHunks, InHunk}
use Rattle.hunk_grammar.specs.ObjectRoles.{ObjectRole, refuse_object}
use Rattle.hunk_files.specs.ObjectFault.{units_labelled, objects, HasObjectFault}
use Rattle.hunk_files.proofs.object_walk.ObjectGoesOn.{SoFar, begins, expected, goes_on, never, whole_units}
use Rattle.hunk_files.proofs.object_walk.OneObjectFault.{ObjectState, AtWord, AtCount, InName, InBlock, reader, object_reads, file_leads}
use Rattle.hunk_files.proofs.{object_walk.UnitFaults.units_words, cuts.UnitReading.{object_longs, text_longs}}

unfoldable pub keeps : Keeps objects reader
keeps = record { SoFar = SoFar; begins = begins; expects = expected; goes_on = goes_on; ends = λ s before h e. absurd (never s e) }

-- The longwords of an object file lead between hunks, and nowhere else.
pub leads_there : (bytes : List ℕ) (o : ObjectFileValue) → IsObjectFile o → bytes ≡ bytes_of (object_text o) → state_after reader (AtWord BeforeUnits) (longs bytes) ≡ AtWord BetweenHunks
leads_there bytes o is e =
    ap (state_after reader (AtWord BeforeUnits)) (text_longs bytes o is.units e ∙ sym (units_words BeforeUnits o))
    ∙ leads_state reader (AtWord BeforeUnits) (AtWord BetweenHunks) (units_labelled BeforeUnits o) (file_leads o is)

-- one to three bytes over
over_none : (bytes over : List ℕ) (ws : List ℕ) → bytes ≡ bytes_of ws ++ over → 0 < length over → length over < 4 → IsNoObjectFile bytes
over_none bytes over ws split some few o is e =
    omega (arith, some, few, ap length split, length-append (bytes_of ws) over, length-bytes_of ws, ap length e, length-bytes_of (object_text o))

Outcome : List ℕ → Type 0
Outcome bytes = ((o : ObjectFileValue) × IsObjectFile o × (bytes ≡ bytes_of (object_text o))) ⊎ ((at : ℕ) × (reason : Reason) × HasObjectFault bytes at reason)

module _ (bytes : List ℕ) (fit : IsBytes bytes) where
  -- a text begins with all the longwords
  cut_short : (s : ObjectState) → SoFar s (longs bytes) → IsNoObjectFile bytes → Outcome bytes
  unfolding Outcome keeps
  cut_short s h none = inr (4 * length (longs bytes), reasons.Truncated, inr (refl, record { place = refl; not_whole = none; front = front objects reader keeps s (longs bytes) h }))

  -- elsewhere than between hunks no object file ends
  elsewhere : (s : ObjectState) → state_after reader (AtWord BeforeUnits) (longs bytes) ≡ s → s ≢ AtWord BetweenHunks → IsNoObjectFile bytes
  elsewhere s e ne o is same = ne (sym e ∙ leads_there bytes o is same)

  -- between hunks the longwords are an object file
  whole : SoFar (AtWord BetweenHunks) (longs bytes) → Outcome bytes
  unfolding Outcome
  whole h = let s = spelled bytes fit in go s.over s.few s.split
    where
      go : (over : List ℕ) → length over < 4 → bytes ≡ bytes_of (longs bytes) ++ over → Outcome bytes
      go [] few split =
          let o = whole_units h.0 h.1 (longs bytes) h.2 in
          inl (o.0, o.1, split ∙ append-nil (bytes_of (longs bytes)) ∙ ap bytes_of o.2)
      go (b ∷ over) few split = cut_short (AtWord BetweenHunks) h (over_none bytes (b ∷ over) (longs bytes) split (omega arith) few)

  all_read : (s : ObjectState) → state_after reader (AtWord BeforeUnits) (longs bytes) ≡ s → SoFar s (longs bytes) → Outcome bytes
  all_read (AtWord BetweenHunks) e h = whole h
  all_read (AtWord BeforeUnits) e h = cut_short (AtWord BeforeUnits) h (elsewhere (AtWord BeforeUnits) e (λ c. cc))
  all_read (AtWord (InHunk has)) e h = cut_short (AtWord (InHunk has)) h (elsewhere (AtWord (InHunk has)) e (λ c. cc))
  all_read AtCount e h = cut_short AtCount h (elsewhere AtCount e (λ c. cc))
  all_read (InName owed) e h = cut_short (InName owed) h (elsewhere (InName owed) e (λ c. cc))
  all_read (InBlock next x) e h = cut_short (InBlock next x) h (elsewhere (InBlock next x) e (λ c. cc))

pub some_outcome : (bytes : List ℕ) → IsBytes bytes → ((o : ObjectFileValue) × IsObjectFile o × (bytes ≡ bytes_of (object_text o))) ⊎ ((at : ℕ) × (reason : Reason) × HasObjectFault bytes at reason)
unfolding Outcome keeps
some_outcome bytes fit = elim (judged objects reader keeps (longs bytes) (longs_fit bytes fit)) [
  | inl h ↦ absurd (never h.state h.stops)
  | inr (inl h) ↦ inr (h.at, h.reason, inl h.refusal)
  | inr (inr h) ↦ all_read bytes fit (state_after reader (AtWord BeforeUnits) (longs bytes)) refl h
]

-- An accepted longword goes on.
pub word_goes_on : (before : List ℕ) (role : ObjectRole) (w : ℕ) → Expects objects before role → IsLong w → refuse_object role w ≡ None → IsFront objects (before ++ w ∷ [])
word_goes_on = completed objects reader keeps object_reads (λ us h. subst AreLongs (sym (units_words BeforeUnits us)) (object_longs us h.1))
