-- Blocks and hunks that stand in bytes.
use Rattle.std.specs.Prelude.{◌≡◌, ℕ, ◌+◌, ◌*◌, List, ◌++◌, length, drop}
use Rattle.std.specs.List.{flat_map}
use Rattle.hunk_words.specs.Longs.{bytes_of}
use Rattle.hunk_blocks.specs.Values.{BlockValue, IsBlock}
use Rattle.hunk_blocks.specs.Parts.{block_text}
use Rattle.hunk_files.specs.ObjectFile.{IsObjectHunk}

abbrev pub block_texts : List BlockValue → List ℕ
block_texts bs = flat_map block_text bs

-- At this byte stands a block.
pub record BlockAt (bytes : List ℕ) (start : ℕ) : Type 0 where
  pub block : BlockValue
  pub is : IsBlock block
  pub rest : List ℕ
  pub text : drop start bytes ≡ bytes_of (block_text block) ++ rest

-- At this byte stands a hunk, of a file of either kind: blocks in order, up to END.
pub record HunkAt (bytes : List ℕ) (start : ℕ) : Type 0 where
  pub blocks : List BlockValue
  pub is : IsObjectHunk blocks
  pub rest : List ℕ
  pub text : drop start bytes ≡ bytes_of (block_texts blocks) ++ rest

-- This is the value that stands there, and its longwords end at this byte.
abbrev pub IsRead : {A : Type 0} → (A → List ℕ) → A → ℕ → A → ℕ → Type 0
IsRead text there start value end = (value ≡ there) × (end ≡ start + 4 * length (text there))
