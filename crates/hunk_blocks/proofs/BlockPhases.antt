-- What was read of a block, in numbers alone: the phase of its reader.
use Rattle.std.proofs.Common.{rules, ◌≡◌, ◌≢◌, ℕ, suc, List, refl, arith, Option, Some, None}
use Rattle.std.proofs.lemmas.Grind.{common_steps}
use Rattle.hunk_words.specs.{declared.block_word.Kind.Kind, Bits.entry_type}
use Rattle.hunk_grammar.specs.{declared.ext_shape.ExtShape.ExtShape, Modes.refuse_inside}
use Rattle.hunk_blocks.specs.{ReaderPhase.{front_phase, phase_of, next_phase}, Values.ExtEntry}
use Rattle.hunk_grammar.specs.{ExtKinds.ext_shape, BlockParts.{Part, Part as parts}}
use Rattle.hunk_grammar.specs.{declared.phase.Phase.Phase, PhaseSteps.{part_at, longest_run, longest_run_of, pass_longest_run_of}}
use Rattle.hunk_blocks.specs.BlockSteps.{Inside, InExtOffsets, part_of, step_inside, begin_body, name_external}
use Rattle.hunk_grammar.specs.PhaseSteps as scan

-- ---- steps

front_steps : (s : Option ExtShape) (owed w : ℕ) → scan.owe_shaped s owed ≡ scan.step (front_phase s owed) w
front_steps s owed w = search rules

ext_phase : (es : List ExtEntry) (word : ℕ) (done : List ℕ) (owed : ℕ) → next_phase (name_external es word done owed) ≡ scan.owe_shaped (ext_shape (entry_type word)) owed
ext_phase es word done owed = search rules

-- A step of the reader is a step of its phase.
pub step_phase : (x : Inside) (w : ℕ) → next_phase (step_inside x w) ≡ scan.step (phase_of x) w
step_phase x w = grind (arith, common_steps, ext_phase, front_steps)

pub begin_phase : (k : Kind) → next_phase (begin_body k) ≡ scan.begin k
begin_phase k = search rules

-- ---- refusals

-- in a list of references, whose offsets are passed over with the rest of the entry
abbrev pub IsReference : Inside → Type 0
IsReference (InExtOffsets es word name value done owed) = Unit {0}
IsReference _ = ⊥

-- The phase determines what is asked of the next longword, where that is the same for all parts of an entry.
pub same_part : {A : Type 0} (test : Part → A) → test parts.EntryValue ≡ test parts.EntryName → (x : Inside) → (IsReference x → test parts.Offset ≡ test parts.EntryName) → test (part_of x) ≡ test (part_at (phase_of x))
same_part test x h offset = search rules

-- The phase determines the refusal.
pub refuse_phase : (x : Inside) (w : ℕ) → refuse_inside (part_of x) w ≡ refuse_inside (part_at (phase_of x)) w
refuse_phase x w = same_part (λ (part : Part). refuse_inside part w) refl x (λ r. refl)

-- After a block word no phase is that of one.
pub phase_no_word : (x : Inside) → part_at (phase_of x) ≢ parts.BlockWord
phase_no_word x e = search rules

-- ---- runs

-- One longword of a run, of which this number is left.
pub record OneOfRun (p : Phase) (left w : ℕ) : Type 0 where
  pub passes : refuse_inside (part_at p) w ≡ None
  pub run_is : longest_run_of (scan.step p w) ≡ left
  pub after_is : pass_longest_run_of (scan.step p w) ≡ scan.pass_longest_run p

pub one_of_run : (p : Phase) (left w : ℕ) → longest_run p ≡ suc left → OneOfRun p left w
one_of_run p left w e = search rules

pub no_run : (p : Phase) → longest_run p ≡ 0 → scan.pass_longest_run p ≡ Some p
no_run p e = search rules

-- One longword of a run in a block.
pub longest_runs_inside : (x : Inside) (left w : ℕ) → longest_run (phase_of x) ≡ suc left → (refuse_inside (part_of x) w ≡ None) × (longest_run_of (next_phase (step_inside x w)) ≡ left) × (pass_longest_run_of (next_phase (step_inside x w)) ≡ scan.pass_longest_run (phase_of x))
longest_runs_inside x left w e = search (rules, step_phase)
