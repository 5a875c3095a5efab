-- How much of a wide spelling of a load file is spelled otherwise: its short blocks, and the END that it leaves out.
use Rattle.std.specs.Prelude.{◌≡◌, ℕ, ◌+◌, Bool, true, false, List, [], ◌∷◌, ◌++◌}
use Rattle.std.proofs.Common.{inl, inr}
use Rattle.hunk_blocks.specs.Values.{BlockValue}
use Rattle.hunk_files.specs.LoadFile.{HunkValue, LoadFileValue}
use Rattle.hunk_wide.specs.Spellings.{ends_of, one_if, short_blocks_of}
use Rattle.hunk_wide.specs.Wide.{IsWide, SpellsBlock, SpellsBlocks, SpellsHunks}

-- 1 where the block is in short, none where its bytes are those of its longwords
abbrev pub short_of : (b : BlockValue) (bytes : List ℕ) → SpellsBlock b bytes → ℕ
short_of b bytes (inl same) = 0
short_of b bytes (inr short) = 1

-- An END that is left out is the last block.
abbrev pub short_in_blocks : (left_out : Bool) (blocks : List BlockValue) (bytes : List ℕ) → SpellsBlocks left_out blocks bytes → ℕ
short_in_blocks left_out [] bytes s = 0
short_in_blocks false (b ∷ more) bytes s = short_of b s.0 s.3 + short_in_blocks false more s.1 s.4
short_in_blocks true (b ∷ []) bytes s = 0
short_in_blocks true (b ∷ c ∷ more) bytes s = short_of b s.0 s.3 + short_in_blocks true (c ∷ more) s.1 s.4

abbrev pub short_in_hunks : (at_end : Bool) (hunks : List HunkValue) (bytes : List ℕ) → SpellsHunks at_end hunks bytes → ℕ
short_in_hunks at_end [] bytes s = 0
short_in_hunks at_end (h ∷ hs) bytes s = short_in_blocks s.0 h.blocks s.1 s.4 + short_in_hunks at_end hs s.2 s.6

-- one for each hunk whose END is left out
abbrev pub ends_in_hunks : (at_end : Bool) (hunks : List HunkValue) (bytes : List ℕ) → SpellsHunks at_end hunks bytes → ℕ
ends_in_hunks at_end [] bytes s = 0
ends_in_hunks at_end (h ∷ hs) bytes s = one_if s.0 + ends_in_hunks at_end hs s.2 s.6

-- The input begins with a wide spelling of the load file, and `rest` comes after it: nothing, where the END of the last hunk is
-- left out. The numbers of short blocks, and of END that are left out, are those of that spelling.
pub record BeginsWithWide (v : LoadFileValue) (input rest : List ℕ) : Type 0 where
  pub at_end : Bool
  pub front : List ℕ
  pub split : input ≡ front ++ rest
  pub wide : IsWide at_end v front
  pub none_after : at_end ≡ true → rest ≡ []
  pub short_blocks : short_blocks_of input ≡ short_in_hunks at_end v wide.hunks wide.spells
  pub ends : ends_of input ≡ ends_in_hunks at_end v wide.hunks wide.spells
