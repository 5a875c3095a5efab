-- The run of a position is the longwords of the text that may be any.
use Rattle.std.proofs.Common.{◌≡◌, ℕ, zero, suc, ◌-◌, ◌≤◌, Bool, true, false, cond, List, [], ◌∷◌, ◌++◌, length, refl, sym, ap, subst, ◌∙◌, arith, None}
use Rattle.hunk_blocks.specs.Faults.{words}
use Rattle.hunk_grammar.specs.{BlockParts.{Part, Part as parts}, PhaseSteps.part_at}
use Rattle.hunk_blocks.specs.Values.{BlockValue}
use Rattle.hunk_blocks.specs.ReaderPhase.{phase_of}
use Rattle.hunk_grammar.specs.declared.phase.Phase.{Phase}
use Rattle.hunk_grammar.specs.declared.phase.Phase.TheVariants as phases
use Rattle.hunk_blocks.proofs.{BlockPhases.same_part, Fronts.All-left, Fronts.All-right, Lists.{passes_else, passes_then}}
use Rattle.hunk_grammar.specs.PhaseSteps as inside
use Rattle.hunk_grammar.specs.declared.position.Position.{Position}
use Rattle.hunk_grammar.specs.declared.position.Position.TheVariants as positions
use Rattle.hunk_grammar.specs.Positions as scan
use Rattle.hunk_grammar.specs.Roles.{InBlock, Place, Role, refuse}
use Rattle.hunk_files.specs.LoadFile.{LoadFileValue, IsLoadFile}
use Rattle.hunk_files.specs.LoadText.{labelled}
use Rattle.hunk_files.specs.FileSteps.{HunkSoFar, Progress, AtFirst, AtBlock, InBody, Next, More, Finished, place_of, role_of, step_file, Leads}
use Rattle.hunk_files.specs.Machines.{is_free, is_free_part, leading, leads_to, load_at}
use Rattle.hunk_files.specs.ReaderPosition.{block_phase, open_of, position_of}
use Rattle.hunk_files.specs.WordsRead.{AreAccepted, HasRead, IsAccepted, Labelled}
use Rattle.hunk_files.proofs.{walk.Accepted.labelled_accepted, walk.FileText.file_leads, walk.LoadPlaces.position_at, walk.LoadWalks.one_of_run}
use Rattle.hunk_files.proofs.walk.FileProgress.{NextFits, ProgressFits, step_keeps}
use Rattle.hunk_files.proofs.{walk.Positions.{no_reference, step_position}, walk.Reading.reads, walk.Runs.Leads-split}

-- ---- how long

abbrev pub is_some : ℕ → Bool
is_some zero = false
is_some (suc n) = true

free_phase : (phase : Phase) → is_free_part (part_at phase) ≡ is_some (scan.run_in phase)
free_phase phases.FirstBlock = refl
free_phase _ = refl

free_block : (o : HunkSoFar) (blocks : List BlockValue) → false ≡ is_some (scan.run (positions.Body (open_of o) (block_phase blocks)))
free_block o [] = refl
free_block o (b ∷ blocks) = refl

-- A longword is free where the position has a run.
free_role : (p : Progress) → ProgressFits p → is_free (role_of p) ≡ is_some (scan.run (position_of (More p)))
free_role (AtBlock o) f = free_block o o.blocks
free_role (InBody o word x) f = same_part is_free_part refl x (λ r. absurd (no_reference (place_of o) word x f.2.1 r)) ∙ free_phase (phase_of x)
free_role AtFirst f = refl
free_role _ f = refl

run_leads : (n : Next) (ls : Labelled) (v : LoadFileValue) → NextFits n → AreAccepted ls → Leads n ls (Finished v) → scan.run (position_of n) ≡ leading is_free ls
run_leads (Finished u) [] v f ok leads = refl
run_leads (More p) [] v f ok leads = absurd cc
run_leads (Finished u) (l ∷ ls) v f ok leads = absurd leads
run_leads (More p) (l ∷ ls) v f ok leads =
    let pass = ap (λ (r : Role). refuse r l.1) leads.0 ∙ ok.0.1 in
    go (scan.run (position_of (More p))) refl (run_leads (step_file p l.1) ls v (step_keeps p l.1 f ok.0.0 pass).0 ok.1 leads.1)
  where
    go : (r : ℕ) → scan.run (position_of (More p)) ≡ r → scan.run (position_of (step_file p l.1)) ≡ leading is_free ls → scan.run (position_of (More p)) ≡ cond (is_free l.0) (suc (leading is_free ls)) 0
    go zero e rest = e ∙ sym (passes_else (is_free l.0) (suc (leading is_free ls)) 0 (ap is_free (sym leads.0) ∙ free_role p f ∙ ap is_some e))
    go (suc left) e rest =
        let next : left ≡ leading is_free ls = sym (one_of_run (position_of (More p)) 0 left l.1 e).run_is ∙ ap scan.run (sym (step_position p l.1 f)) ∙ rest in
        e ∙ ap suc next ∙ sym (passes_then (is_free l.0) (suc (leading is_free ls)) 0 (ap is_free (sym leads.0) ∙ free_role p f ∙ ap is_some e))

-- The run is as long as the free longwords that come next.
pub run_is : (v : LoadFileValue) → IsLoadFile v → (done more : Labelled) → labelled v ≡ done ++ more → scan.run (load_at (words done)) ≡ leading is_free more
run_is v is done more e =
    let ok = subst AreAccepted e (labelled_accepted v is) in
    let cut = Leads-split (More AtFirst) (Finished v) done more (subst (λ (ls : Labelled). Leads (More AtFirst) ls (Finished v)) e (file_leads v is)) in
    let h : HasRead (words done) cut.0 = record { done = done; leads = cut.1; accepted = All-left IsAccepted done more ok; all = refl } in
    ap scan.run (position_at (words done) cut.0 h) ∙ run_leads cut.0 more v (reads h).0 (All-right IsAccepted done more ok) cut.2

-- ---- free longwords

free_part_passes : (p : Place) (part : Part) (w : ℕ) → is_free_part part ≡ true → refuse (InBlock p part) w ≡ None
free_part_passes p parts.Payload w e = refl
free_part_passes p parts.EntryName w e = refl
free_part_passes p parts.EntryValue w e = refl
free_part_passes p _ w e = absurd cc

-- None is refused.
pub free_passes : (role : Role) (w : ℕ) → is_free role ≡ true → refuse role w ≡ None
free_passes (InBlock p part) w e = free_part_passes p part w e
free_passes _ w e = absurd cc

-- ---- where a run leads

-- of a kind of longwords, by how many are owed
passed_on : (inside owe : ℕ → Position) → ((k n : ℕ) → scan.pass (inside k) (suc n) ≡ owe (k - n)) → ((k : ℕ) → owe (suc k) ≡ inside k) → (owed n : ℕ) → n ≤ owed → scan.pass (owe owed) n ≡ owe (owed - n)
passed_on inside owe pass one zero zero le = refl
passed_on inside owe pass one zero (suc n) le = absurd (omega (arith, le))
passed_on inside owe pass one (suc k) zero le = let e : suc k ≡ suc k - 0 = omega arith in ap owe e
passed_on inside owe pass one (suc k) (suc n) le = let e : k - n ≡ suc k - suc n = omega arith in ap (λ (p : Position). scan.pass p (suc n)) (one k) ∙ pass k n ∙ ap owe e

-- One longword less is passed.
pass_more : (p : Position) (w n : ℕ) → suc n ≤ scan.run p → scan.pass (scan.step p w) n ≡ scan.pass p (suc n)
pass_more (positions.Body o (phases.Content all owed)) w n le = passed_on (λ k. positions.Body o (phases.Content all k)) (λ k. scan.owe_content o all k) (λ k m. refl) (λ k. refl) owed n (omega (arith, le))
pass_more (positions.Body o (phases.Payload owed)) w n le = passed_on (λ k. positions.Body o (phases.Payload k)) (λ k. scan.owe_payload o k) (λ k m. refl) (λ k. refl) owed n (omega (arith, le))
pass_more (positions.Body o (phases.Symbol owed)) w n le = passed_on (λ k. positions.Body o (phases.Symbol k)) (λ k. scan.owe_symbol o k) (λ k m. refl) (λ k. refl) owed n (omega (arith, le))
pass_more (positions.Body o (phases.ExtFront owed)) w n le = passed_on (λ k. positions.Body o (phases.ExtFront k)) (λ k. scan.onward o (scan.at o phases.BlockWord) (inside.owe_front k)) (λ k m. refl) (λ k. refl) owed n (omega (arith, le))
pass_more (positions.Body o (phases.ExtRest owed)) w n le = passed_on (λ k. positions.Body o (phases.ExtRest k)) (λ k. scan.onward o (scan.at o phases.BlockWord) (inside.owe_rest k)) (λ k m. refl) (λ k. refl) owed n (omega (arith, le))
pass_more _ w n le = absurd (omega (arith, le))

-- Whatever the longwords of a run are, they lead where it says.
pub pass_is : (p : Position) (ws : List ℕ) → length ws ≤ scan.run p → leads_to scan.step p ws ≡ scan.pass p (length ws)
pass_is p [] le = refl
pass_is p (w ∷ ws) le =
    let left : scan.run p ≡ suc (scan.run p - 1) = omega (arith, le) in
    let next = (one_of_run p 0 (scan.run p - 1) w left).run_is in
    pass_is (scan.step p w) ws (omega (arith, le, next)) ∙ pass_more p w (length ws) le
