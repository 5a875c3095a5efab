-- The blocks of load files and of object files, and the reasons that one may be refused for.
use Rattle.std.specs.Prelude.{◌≡◌, ℕ, Bool, true, false, ⊤}
use Rattle.hunk_words.specs.declared.block_word.Kind.TheVariants as kinds
use Rattle.hunk_words.specs.declared.reason.Reason.{Reason}
use Rattle.hunk_words.specs.declared.reason.Reason.TheVariants as reasons
use Rattle.hunk_words.specs.Bits.{kind}
use Rattle.hunk_grammar.specs.declared.mode.Mode.{Mode}
use Rattle.hunk_grammar.specs.declared.mode.Mode.TheVariants as modes
use Rattle.hunk_blocks.specs.Values.{BlockBody, Reloc, Ext, BlockValue}

-- In a load file only RELOC32 relocates, and nothing is external.
abbrev pub IsOfLoadMode : ℕ → BlockBody → Type 0
IsOfLoadMode word (Reloc groups) = kind word ≡ kinds.Reloc32
IsOfLoadMode word (Ext entries) = ⊥
IsOfLoadMode word body = ⊤

abbrev pub IsOfMode : Mode → BlockValue → Type 0
IsOfMode modes.Load b = IsOfLoadMode b.word b.body
IsOfMode modes.Object b = ⊤

-- The reasons that a block may be refused for.
abbrev pub is_block_refusal : Reason → Bool
is_block_refusal reasons.Library = true
is_block_refusal reasons.BothBits = true
is_block_refusal reasons.Overlay = true
is_block_refusal reasons.Break = true
is_block_refusal reasons.ShortReloc = true
is_block_refusal reasons.NotInLoadFile = true
is_block_refusal reasons.Misplaced = true
is_block_refusal reasons.UnknownBlock = true
is_block_refusal reasons.NameWord = true
is_block_refusal reasons.ExtKind = true
is_block_refusal reasons.Truncated = true
is_block_refusal reasons.OutOfMemory = true
is_block_refusal _ = false
