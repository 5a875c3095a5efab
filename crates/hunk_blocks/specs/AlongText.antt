-- A machine of positions goes along a text.
use Rattle.std.specs.Prelude.{◌≡◌, ℕ, List, [], ◌∷◌, Option, Some, None}
use Rattle.hunk_words.specs.declared.reason.Reason.{Reason}
use Rattle.hunk_grammar.specs.declared.mode.Mode.{Mode}
use Rattle.hunk_grammar.specs.declared.phase.Phase.{Phase}
use Rattle.hunk_grammar.specs.BlockParts.{Part}
use Rattle.hunk_blocks.specs.Faults.{refuse_alone}
use Rattle.hunk_grammar.specs.PhaseSteps.{part_at, step}

-- From this position: at each longword the machine's test is that of the longword's role, and the step leads on, at last to `end`.
abbrev pub GoesAlong : {Pos Role : Type 0} → (Role → Pos → ℕ → Option Reason) → (Role → ℕ → Option Reason) → (Pos → ℕ → Pos) → Pos → List (Role × ℕ) → Pos → Type 0
GoesAlong test refuse step p [] end = p ≡ end
GoesAlong test refuse step p (l ∷ ls) end = ((w : ℕ) → test l.0 p w ≡ refuse l.0 w) × GoesAlong test refuse step (step p l.1) ls end

-- ---- a block, after whose end no phase is left

abbrev pub refuse_at : Mode → Part → Option Phase → ℕ → Option Reason
refuse_at mode part (Some phase) w = refuse_alone mode (part_at phase) w
refuse_at mode part None w = None

abbrev pub step_on : Option Phase → ℕ → Option Phase
step_on (Some phase) w = step phase w
step_on None w = None
