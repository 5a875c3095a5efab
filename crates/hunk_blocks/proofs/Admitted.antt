-- A block word that no test refuses, and one that is refused.
use Rattle.std.proofs.Common.{rules, ◌≡◌, ◌≢◌, ℕ, Bool, true, false, Option, Some, None, sym, ap, ◌∙◌}
use Rattle.hunk_words.specs.{declared.reason.Reason.Reason, Bits.{has_both_bits, is_advisory, kind}}
use Rattle.hunk_words.specs.declared.reason.Reason.TheVariants as reasons
use Rattle.hunk_grammar.specs.declared.mode.Mode.{Mode}
use Rattle.hunk_blocks.specs.Values.{BlockBody, BlockValue, FitsWord, IsBlock}
use Rattle.hunk_blocks.specs.Modes.{IsOfMode}
use Rattle.hunk_grammar.specs.Modes.{refuse_alone_kind, refuse_alone_word}
use Rattle.hunk_blocks.proofs.Lists.{passes_else}

abbrev pub block : ℕ → BlockBody → BlockValue
block word body = record { word = word; body = body }

-- ---- no block has a word that is refused

kind_passes : (mode : Mode) (word : ℕ) (body : BlockBody) → FitsWord word body → IsOfMode mode (block word body) → refuse_alone_kind mode (is_advisory word) (kind word) ≡ None
kind_passes mode word body h m = search rules

pub word_passes : (mode : Mode) (b : BlockValue) → IsBlock b → IsOfMode mode b → refuse_alone_word mode b.word ≡ None
word_passes mode b h m = passes_else (has_both_bits b.word) (Some reasons.BothBits) _ h.bits ∙ kind_passes mode b.word b.body h.body m

-- ---- what is accepted is of the mode

-- ---- no longword is refused as out of memory
abbrev pub not_for_memory : Option Reason → Bool
not_for_memory (Some reasons.OutOfMemory) = false
not_for_memory _ = true

pub other_than_memory : (o : Option Reason) (reason : Reason) → not_for_memory o ≡ true → o ≡ Some reason → reason ≢ reasons.OutOfMemory
other_than_memory o reason h e m = let clash : false ≡ true = ap not_for_memory (ap (λ (r : Reason). Some r) (sym m) ∙ sym e) ∙ h in cc
