-- A walk over one block reaches its end or the first fault.
use Rattle.std.proofs.Common.{rules, ◌≡◌, ℕ, ◌+◌, ◌*◌, ◌<◌, ◌≤◌, List, ◌++◌, length, get_or, take, drop, refl, sym, ap, subst, ◌∙◌, arith, Option, Some, None, inl, inr}
use Rattle.std.proofs.lemmas.List.{length-take-le, take-append-drop, take_all}
use Rattle.hunk_words.specs.{declared.reason.Reason.Reason, Bits.kind, Longs.{longs, IsBytes}}
use Rattle.hunk_words.specs.declared.reason.Reason.TheVariants as reasons
use Rattle.hunk_words.proofs.LongLaws.{longs_fit}
use Rattle.hunk_grammar.specs.{declared.mode.Mode.Mode, BlockParts.{Part, Part as parts}}
use Rattle.hunk_blocks.specs.Parts.{block_text}
use Rattle.hunk_blocks.specs.{Faults.{blocks, refuse_alone, HasBlockFault}, BlockSteps.{Open, Whole, part_of}}
use Rattle.hunk_grammar.specs.{declared.phase.Phase.Phase, PhaseSteps.{part_at, longest_run_of, pass_longest_run_of}}
use Rattle.hunk_blocks.specs.{Begins.HasBlockText, ReaderPhase.{phase_of, next_phase}}
use Rattle.hunk_blocks.proofs.{Admitted.block, BlockOutcome.{SoFar, keeps, block_is, goes_on_none}, Decoding.front_bytes}
use Rattle.hunk_blocks.proofs.OneBlockFault.{Alone, AtWord, After, alone, part_not_word, alone_inside}
use Rattle.hunk_blocks.proofs.{Outcomes.front, BlockPhases.{phase_no_word, step_phase, begin_phase, refuse_phase}}
use Rattle.hunk_blocks.proofs.KeptWalks.{HasRuns, StandsAt, Walks, starts, stands, word_refused, word_passes}
use Rattle.hunk_grammar.specs.declared.phase.Phase.TheVariants as phases
use Rattle.hunk_grammar.specs.PhaseSteps as scan

abbrev pub position_of : Alone → Option Phase
position_of AtWord = Some phases.BlockWord
position_of (After n) = next_phase n

module _ (mode : Mode) where
  pub runs : HasRuns (blocks mode) alone (keeps mode) position_of longest_run_of pass_longest_run_of
  runs = search rules

  abbrev pub BlockWalks : List ℕ → ℕ → Option Phase → Type 0
  BlockWalks bytes at p = Walks (blocks mode) alone (keeps mode) position_of longest_run_of pass_longest_run_of (longs bytes) at p

module _ (mode : Mode) (bytes : List ℕ) (fit : IsBytes bytes) where
  pub start : BlockWalks mode bytes 0 (Some phases.BlockWord)
  unfolding keeps
  start = starts (blocks mode) alone (keeps mode) position_of longest_run_of pass_longest_run_of (longs bytes)

  -- the role of the next longword, and where it leads
  pub record Next (s : Alone) (phase : Phase) (w : ℕ) : Type 0 where
    pub role : Part
    pub expects : alone.expects s ≡ Some role
    pub refuse_is : refuse_alone mode role w ≡ refuse_alone mode (part_at phase) w
    pub step_is : position_of (alone.step s w) ≡ scan.step phase w

  next : (w : ℕ) (s : Alone) (phase : Phase) → position_of s ≡ Some phase → Next s phase w
  next w AtWord phase e =
      let same : phases.BlockWord ≡ phase = cc in
      subst (λ (p : Phase). Next AtWord p w) same (record { role = parts.BlockWord; expects = refl; refuse_is = refl; step_is = begin_phase (kind w) })
  next w (After (Open x)) phase e =
      let same : phase_of x ≡ phase = cc in
      subst (λ (p : Phase). Next (After (Open x)) p w) same
      (record {
        role = part_of x;
        expects = refl;
        refuse_is = alone_inside mode (part_of x) w (part_not_word x) ∙ refuse_phase x w ∙ sym (alone_inside mode (part_at (phase_of x)) w (phase_no_word x));
        step_is = step_phase x w;
      })
  next w (After (Whole b)) phase e = absurd cc

  module _ (at : ℕ) (phase : Phase) (h : BlockWalks mode bytes at (Some phase)) (l : at < length (longs bytes)) (w : ℕ) (is : w ≡ get_or (longs bytes) at 0) where
    s : StandsAt (blocks mode) alone (keeps mode) position_of longest_run_of pass_longest_run_of (longs bytes) at (Some phase)
    s = stands (blocks mode) alone (keeps mode) position_of longest_run_of pass_longest_run_of (longs bytes) at (Some phase) h (omega (arith, l))

    n : Next s.state phase (get_or (longs bytes) at 0)
    n = next (get_or (longs bytes) at 0) s.state phase s.position_is

    -- The longword is refused.
    pub refused : (reason : Reason) → refuse_alone mode (part_at phase) w ≡ Some reason → HasBlockFault mode bytes (4 * at) reason
    refused reason e =
        inl (word_refused (blocks mode) alone (keeps mode) position_of longest_run_of pass_longest_run_of (longs bytes) (longs_fit bytes fit) at (Some phase) s l n.role n.expects reason
        (n.refuse_is ∙ ap (refuse_alone mode (part_at phase)) (sym is) ∙ e))

    -- The walk goes on after it.
    pub passes : refuse_alone mode (part_at phase) w ≡ None → BlockWalks mode bytes (at + (1 + longest_run_of (scan.step phase w))) (pass_longest_run_of (scan.step phase w))
    passes e =
        word_passes (blocks mode) alone (keeps mode) position_of longest_run_of pass_longest_run_of (longs bytes) (longs_fit bytes fit) at (Some phase) s l n.role n.expects (runs mode)
        (n.refuse_is ∙ ap (refuse_alone mode (part_at phase)) (sym is) ∙ e) (scan.step phase w) (n.step_is ∙ ap (scan.step phase) (sym is))

  -- A block is whole.
  pub ends : (at : ℕ) → BlockWalks mode bytes at None → at ≤ length (longs bytes) → HasBlockText mode bytes (4 * at)
  unfolding keeps
  ends at h l = let s = stands (blocks mode) alone (keeps mode) position_of longest_run_of pass_longest_run_of (longs bytes) at None h l in go s.state s.so_far s.position_is
    where
      go : (t : Alone) → SoFar mode t (take at (longs bytes)) → position_of t ≡ None → HasBlockText mode bytes (4 * at)
      go AtWord f e = absurd cc
      go (After (Open x)) f e = absurd cc
      go (After (Whole b)) f e =
          let i = f.1 in
          let v = block_is mode f.0 b i.fits i.ok i.inside in
          let t : block_text (block f.0 b) ≡ take at (longs bytes) = sym i.words_are in
          let size : 4 * length (block_text (block f.0 b)) ≡ 4 * at = omega (arith, ap length t, length-take-le at (longs bytes) l) in
          let x = front_bytes bytes (block_text (block f.0 b)) (drop at (longs bytes)) fit (sym (take-append-drop at (longs bytes)) ∙ ap (λ ws. ws ++ drop at (longs bytes)) (sym t)) in
          record {
            value = block f.0 b;
            begins = record { block = v.0; of_mode = v.1; text = ap (λ (n : ℕ). take n bytes) (sym size) ∙ x.0; whole = omega (arith, size, x.1) };
          }

  truncated : (s : Alone) (role : Part) → SoFar mode s (longs bytes) → alone.expects s ≡ Some role → HasBlockFault mode bytes (4 * length (longs bytes)) reasons.Truncated
  unfolding keeps
  truncated s role f e =
      inr (refl, record { place = refl; not_whole = goes_on_none mode bytes role ((keeps mode).expects s (longs bytes) role f e); front = front (blocks mode) alone (keeps mode) s (longs bytes) f })

  -- a state in a block that goes on
  open_role : (s : Alone) → (position_of s ≡ None → ⊥) → (role : Part) × (alone.expects s ≡ Some role)
  open_role AtWord open_still = (parts.BlockWord, refl)
  open_role (After (Open x)) open_still = (part_of x, refl)
  open_role (After (Whole b)) open_still = absurd (open_still refl)

  -- The input ends in it.
  pub ends_early : (at : ℕ) (p : Option Phase) → BlockWalks mode bytes at p → length (longs bytes) ≤ at → (p ≡ None → length (longs bytes) < at) → HasBlockFault mode bytes (4 * length (longs bytes)) reasons.Truncated
  unfolding keeps
  ends_early at p (inl s) l none =
      let o = open_role s.state (λ e. absurd (omega (arith, s.whole, none (sym s.position_is ∙ e)))) in
      truncated s.state o.0 (subst (SoFar mode s.state) (take_all at (longs bytes) l) s.so_far) o.1
  ends_early at p (inr s) l none =
      let o = open_role s.state (λ e. absurd (omega (arith, s.inside, ap longest_run_of e))) in
      truncated s.state o.0 s.so_far o.1
