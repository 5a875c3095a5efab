-- What the positions of an object file tell stands in its text.
use Rattle.std.proofs.Common.{◌≡◌, ℕ, zero, suc, true, cond, List, [], ◌∷◌, ◌++◌, length, refl, sym, ap, subst, ◌∙◌, arith, Option, Some, None, inl, inr}
use Rattle.std.specs.Prelude.{◌↔◌, IfSome}
use Rattle.hunk_words.specs.Longs.{AreLongs, IsLong}
use Rattle.hunk_blocks.specs.Faults.{IsFront, words}
use Rattle.hunk_grammar.specs.{BlockParts.{Part, Part as parts}, PhaseSteps.{part_at, longest_run, pass_longest_run_of, longest_run_of}}
use Rattle.hunk_blocks.specs.ReaderPhase.{phase_of}
use Rattle.hunk_grammar.specs.declared.phase.Phase.{Phase}
use Rattle.hunk_grammar.specs.declared.phase.Phase.TheVariants as phases
use Rattle.hunk_blocks.proofs.BlockPhases.{no_run, one_of_run, same_part}
use Rattle.hunk_blocks.proofs.{FaultScan.{Leads, front_passes}, Fronts.All-left, Lists.{passes_else, passes_then}}
use Rattle.hunk_blocks.proofs.Outcomes.{judged, leads_state, state_after}
use Rattle.hunk_files.specs.Machines.{is_free_in_object, leading, leads_to, object_at}
use Rattle.hunk_grammar.specs.declared.object_position.WordPlace.TheVariants.{BeforeUnits, BetweenHunks, InHunk}
use Rattle.hunk_grammar.specs.ObjectRoles.{ObjectRole, UnitName, Within, refuse_object}
use Rattle.hunk_grammar.specs.declared.object_position.WordPlace.{WordPlace}
use Rattle.hunk_files.specs.ObjectFault.{objects, units_labelled}
use Rattle.hunk_files.specs.ObjectFile.{IsObjectFile, ObjectFileValue, object_text}
use Rattle.hunk_grammar.specs.ObjectPositions as scan
use Rattle.hunk_grammar.specs.declared.object_position.ObjectPosition.{ObjectPosition}
use Rattle.hunk_grammar.specs.declared.object_position.ObjectPosition.TheVariants as positions
use Rattle.hunk_files.proofs.object_walk.ObjectGoesOn.{SoFar, never, whole_units}
use Rattle.hunk_files.proofs.{walk.LoadRuns.is_some, object_walk.ObjectOutcome.keeps, object_walk.ObjectWalks.{position_of, step_position}}
use Rattle.hunk_files.proofs.object_walk.OneObjectFault.{AtCount, AtWord, InBlock, InName, ObjectState, file_leads, object_reads, reader}
use Rattle.hunk_files.proofs.{object_walk.UnitFaults.units_words, cuts.UnitReading.object_longs}

-- ---- the end

-- the position that longwords lead to, by the state that they lead to
pub position_from : (s : ObjectState) (ws : List ℕ) → leads_to scan.step (position_of s) ws ≡ position_of (state_after reader s ws)
position_from s [] = refl
position_from s (w ∷ ws) = ap (λ (p : ObjectPosition). leads_to scan.step p ws) (sym (step_position s w)) ∙ position_from (reader.step s w) ws

-- An object file, of which these longwords are the text.
abbrev AreObject : List ℕ → Type 0
AreObject ws = (o : ObjectFileValue) × IsObjectFile o × (object_text o ≡ ws)

object_ends : (s : ObjectState) (ws : List ℕ) → scan.may_end (position_of s) ≡ true → SoFar s ws → AreObject ws
object_ends (AtWord BetweenHunks) ws b h = let o = whole_units h.0 h.1 ws h.2 in (o.0, o.1, sym o.2)
object_ends (AtWord BeforeUnits) ws b h = absurd cc
object_ends (AtWord (InHunk has)) ws b h = absurd cc
object_ends AtCount ws b h = absurd cc
object_ends (InName owed) ws b h = absurd cc
object_ends (InBlock next x) ws b h = absurd cc

-- what some object text begins with is read to its end
pub object_read : (ws : List ℕ) → AreLongs ws → IsFront objects ws → SoFar (state_after reader reader.start ws) ws
unfolding keeps
object_read ws l front = elim (judged objects reader keeps ws l) [
  | inl h ↦ absurd (never h.state h.stops)
  | inr (inl h) ↦ absurd (front_passes objects reader object_reads ws h.at h.reason h.refusal front)
  | inr (inr h) ↦ h
]

object_whole : (o : ObjectFileValue) → IsObjectFile o → state_after reader reader.start (object_text o) ≡ AtWord BetweenHunks
object_whole o is = ap (state_after reader reader.start) (sym (units_words BeforeUnits o)) ∙ leads_state reader reader.start (AtWord BetweenHunks) (units_labelled BeforeUnits o) (file_leads o is)

-- A file may end where the longwords are one.
pub end_tells : (o : ObjectFileValue) (ws more : List ℕ) → IsObjectFile o → object_text o ≡ ws ++ more → scan.may_end (object_at ws) ≡ true ↔ AreObject ws
end_tells o ws more is e = (
  λ b.
      let front : IsFront objects ws = record { value = o; is = (is.some, is.units); more = more; begins = units_words BeforeUnits o ∙ e } in
      let fit : AreLongs ws = All-left IsLong ws more (subst AreLongs e (object_longs o is.units)) in
      object_ends (state_after reader reader.start ws) ws (ap scan.may_end (sym (position_from reader.start ws)) ∙ b) (object_read ws fit front),
  λ u.
      ap scan.may_end (position_from reader.start ws)
      ∙ ap (λ (xs : List ℕ). scan.may_end (position_of (state_after reader reader.start xs))) (sym u.2)
      ∙ ap (λ (s : ObjectState). scan.may_end (position_of s)) (object_whole u.0 u.1),
)

-- ---- runs

run_within : (next : WordPlace) (o : Option Phase) → scan.run (scan.within next o) ≡ longest_run_of o
run_within next (Some phase) = refl
run_within next None = refl

after_within : (next : WordPlace) (o : Option Phase) → scan.pass_run (scan.within next o) ≡ scan.within next (pass_longest_run_of o)
after_within next (Some phase) = refl
after_within next None = refl

-- One longword of a run, of which this number is left.
record OneOff (p : ObjectPosition) (left w : ℕ) : Type 0 where
  run_is : scan.run (scan.step p w) ≡ left
  after_is : scan.pass_run (scan.step p w) ≡ scan.pass_run p

one_off : (p : ObjectPosition) (left w : ℕ) → scan.run p ≡ suc left → OneOff p left w
one_off (positions.Word place) left w e = absurd (omega (arith, e))
one_off positions.UnitCount left w e = absurd (omega (arith, e))
one_off (positions.UnitName zero) left w e = record { run_is = omega (arith, e); after_is = refl }
one_off (positions.UnitName (suc owed)) left w e = record { run_is = omega (arith, e); after_is = refl }
one_off (positions.Block next phase) left w e =
    let o = one_of_run phase left w e in
    record { run_is = run_within next _ ∙ o.run_is; after_is = after_within next _ ∙ ap (scan.within next) o.after_is }

none_off : (p : ObjectPosition) → scan.run p ≡ 0 → p ≡ scan.pass_run p
none_off (positions.Word place) e = refl
none_off positions.UnitCount e = refl
none_off (positions.UnitName owed) e = absurd (omega (arith, e))
none_off (positions.Block next phase) e = sym (ap (scan.within next) (no_run phase e))

-- Whatever the longwords of a run are, they lead after it.
pub after_is : (p : ObjectPosition) (ws : List ℕ) → length ws ≡ scan.run p → leads_to scan.step p ws ≡ scan.pass_run p
after_is p [] e = none_off p (sym e)
after_is p (w ∷ ws) e = let o = one_off p (length ws) w (sym e) in after_is (scan.step p w) ws (sym o.run_is) ∙ o.after_is

free_phase : (phase : Phase) → is_free_in_object (Within (part_at phase)) ≡ is_some (longest_run phase)
free_phase phases.FirstBlock = refl
free_phase _ = refl

free_state : (s : ObjectState) → IfSome (reader.expects s) (λ role. is_free_in_object role ≡ is_some (scan.run (position_of s)))
free_state (AtWord place) = refl
free_state AtCount = refl
free_state (InName owed) = refl
free_state (InBlock next x) = same_part (λ (part : Part). is_free_in_object (Within part)) refl x (λ r. refl) ∙ free_phase (phase_of x)

free_role : (s : ObjectState) (role : ObjectRole) → reader.expects s ≡ Some role → is_free_in_object role ≡ is_some (scan.run (position_of s))
free_role s role e = subst (λ (o : Option ObjectRole). IfSome o (λ r. is_free_in_object r ≡ is_some (scan.run (position_of s)))) e (free_state s)

run_leads : (s : ObjectState) (ls : List (ObjectRole × ℕ)) → Leads reader s ls (AtWord BetweenHunks) → scan.run (position_of s) ≡ leading is_free_in_object ls
run_leads s [] h = ap (λ (t : ObjectState). scan.run (position_of t)) h
run_leads s (l ∷ ls) h = go (scan.run (position_of s)) refl (run_leads (reader.step s l.1) ls h.1)
  where
    go : (r : ℕ) → scan.run (position_of s) ≡ r → scan.run (position_of (reader.step s l.1)) ≡ leading is_free_in_object ls → scan.run (position_of s) ≡ cond (is_free_in_object l.0) (suc (leading is_free_in_object ls)) 0
    go zero e rest = e ∙ sym (passes_else (is_free_in_object l.0) (suc (leading is_free_in_object ls)) 0 (free_role s l.0 h.0 ∙ ap is_some e))
    go (suc left) e rest =
        let next : left ≡ leading is_free_in_object ls = sym (one_off (position_of s) left l.1 e).run_is ∙ ap scan.run (sym (step_position s l.1)) ∙ rest in
        e ∙ ap suc next ∙ sym (passes_then (is_free_in_object l.0) (suc (leading is_free_in_object ls)) 0 (free_role s l.0 h.0 ∙ ap is_some e))

rest_leads : (s : ObjectState) (done more : List (ObjectRole × ℕ)) → Leads reader s (done ++ more) (AtWord BetweenHunks) → Leads reader (state_after reader s (words done)) more (AtWord BetweenHunks)
rest_leads s [] more h = h
rest_leads s (l ∷ done) more h = rest_leads (reader.step s l.1) done more h.1

-- The run is as long as the free longwords that come next.
pub run_is : (o : ObjectFileValue) → IsObjectFile o → (done more : List (ObjectRole × ℕ)) → units_labelled BeforeUnits o ≡ done ++ more → scan.run (object_at (words done)) ≡ leading is_free_in_object more
run_is o is done more e =
    ap scan.run (position_from reader.start (words done))
    ∙ run_leads (state_after reader reader.start (words done)) more (rest_leads reader.start done more (subst (λ ls. Leads reader reader.start ls (AtWord BetweenHunks)) e (file_leads o is)))

within_passes : (part : Part) (w : ℕ) → is_free_in_object (Within part) ≡ true → refuse_object (Within part) w ≡ None
within_passes parts.Payload w e = refl
within_passes parts.Offset w e = refl
within_passes parts.EntryName w e = refl
within_passes parts.EntryValue w e = refl
within_passes _ w e = absurd cc

-- None of these is refused.
pub free_passes : (role : ObjectRole) (w : ℕ) → is_free_in_object role ≡ true → refuse_object role w ≡ None
free_passes (Within part) w e = within_passes part w e
free_passes UnitName w e = refl
free_passes _ w e = absurd cc
