-- What a machine of values forgets of its state goes along the texts that the machine follows.
use Rattle.std.proofs.Common.{rules, ◌≡◌, ℕ, List, [], ◌∷◌, ap, Option, Some, None}
use Rattle.hunk_words.specs.{declared.reason.Reason.Reason}
use Rattle.hunk_grammar.specs.declared.mode.Mode.{Mode}
use Rattle.hunk_blocks.specs.{Values.{BlockValue, IsBlock}, Parts.block_parts, Faults.refuse_alone}
use Rattle.hunk_blocks.specs.{BlockSteps.Whole, AlongText.{GoesAlong, refuse_at, step_on}}
use Rattle.hunk_grammar.specs.declared.phase.Phase.TheVariants as phases
use Rattle.hunk_blocks.proofs.{BlockPhases.step_phase, OneBlockFault.{AtWord, After, alone, block_leads}, BlockWalks.position_of, FaultScan.{Machine, Leads}}

module _ {State Role Pos : Type 0} (m : Machine State Role) (pos : State → Pos) (test : Role → Pos → ℕ → Option Reason) (refuse : Role → ℕ → Option Reason) (step : Pos → ℕ → Pos) where
  -- Where a role is expected, the position has its test, and steps as the machine does.
  pub record Forgets : Type 0 where
    pub tests : (s : State) (role : Role) (w : ℕ) → m.expects s ≡ Some role → test role (pos s) w ≡ refuse role w
    pub steps : (s : State) (role : Role) (w : ℕ) → m.expects s ≡ Some role → pos (m.step s w) ≡ step (pos s) w

  pub along : Forgets → (s t : State) (ls : List (Role × ℕ)) → Leads m s ls t → GoesAlong test refuse step (pos s) ls (pos t)
  along f s t [] h = ap pos h
  along f s t (l ∷ ls) h = search (rules, along f (m.step s l.1) t ls h.1)

-- ---- blocks

block_forgets : (mode : Mode) → Forgets alone position_of (refuse_at mode) (refuse_alone mode) step_on
block_forgets mode = search (rules, step_phase)

pub block_along : (mode : Mode) (b : BlockValue) → IsBlock b → GoesAlong (refuse_at mode) (refuse_alone mode) step_on (Some phases.BlockWord) (block_parts b) None
block_along mode b is = along alone position_of (refuse_at mode) (refuse_alone mode) step_on (block_forgets mode) AtWord (After (Whole b.body)) (block_parts b) (block_leads b is)
