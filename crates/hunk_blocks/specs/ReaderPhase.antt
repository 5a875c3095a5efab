-- What was read of a block, in numbers alone: the phase of its reader.
use Rattle.std.specs.Prelude.{ℕ, suc, ◌+◌, length, Option, Some, None}
use Rattle.hunk_words.specs.Bits.{entry_type}
use Rattle.hunk_grammar.specs.declared.ext_shape.ExtShape.{ExtShape}
use Rattle.hunk_grammar.specs.declared.ext_shape.ExtShape.TheVariants.{Definition, References, Common}
use Rattle.hunk_grammar.specs.declared.phase.Phase.{Phase}
use Rattle.hunk_grammar.specs.declared.phase.Phase.TheVariants as phases
use Rattle.hunk_grammar.specs.ExtKinds.{ext_shape}
use Rattle.hunk_blocks.specs.BlockSteps.{ForName, ForCode, ForData, ForBss, Counted, SizedCode, SizedData, Inside, AtCount, AtSize, InPayload, AtGroup, AtTarget, InOffsets, AtEntry, InName, AtValue, AtExtWord, InExtName, AtExtValue, AtExtSize, AtExtCount, InExtOffsets, BlockNext, Open, Whole}

-- in the name of an external entry
abbrev pub front_phase : Option ExtShape → ℕ → Phase
front_phase (Some Definition) owed = phases.ExtRest (suc owed)
front_phase (Some References) owed = phases.ExtFront owed
front_phase (Some Common) owed = phases.ExtFront (suc owed)
front_phase None owed = phases.ExtRest owed

-- The phase of what was read of a block.
abbrev pub phase_of : Inside → Phase
phase_of (AtCount ForName) = phases.NameCount
phase_of (AtCount c) = phases.LongCount
phase_of (AtSize ForCode) = phases.ContentSize
phase_of (AtSize ForData) = phases.ContentSize
phase_of (AtSize ForBss) = phases.BssSize
phase_of (InPayload (Counted c) done owed) = phases.Payload owed
phase_of (InPayload (SizedCode top) done owed) = phases.Content (length done + suc owed) owed
phase_of (InPayload (SizedData top) done owed) = phases.Content (length done + suc owed) owed
phase_of (AtGroup groups) = phases.GroupCount
phase_of (AtTarget groups owed) = phases.Target owed
phase_of (InOffsets groups target done owed) = phases.Offset target owed
phase_of (AtEntry es) = phases.EntryWord
phase_of (InName es word done owed) = phases.Symbol (suc owed)
phase_of (AtValue es word name) = phases.Symbol 0
phase_of (AtExtWord es) = phases.ExtWord
phase_of (InExtName es word done owed) = front_phase (ext_shape (entry_type word)) owed
phase_of (AtExtValue es word name) = phases.ExtRest 0
phase_of (AtExtSize es word name) = phases.ExtFront 0
phase_of (AtExtCount es word name value) = phases.ExtCount
phase_of (InExtOffsets es word name value done owed) = phases.ExtRest owed

-- After the last longword of the block no phase is left.
abbrev pub next_phase : BlockNext → Option Phase
next_phase (Open x) = Some (phase_of x)
next_phase (Whole body) = None
