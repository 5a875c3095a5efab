-- Memory that has room for a hunk, and what the blocks of the hunk make of it.
use Rattle.std.specs.Prelude.{ℕ, ◌/◌, false, List, [], length, map}
use Rattle.std.specs.List.{AllByRecursion, flat_map}
use Rattle.hunk_words.specs.Longs.{bytes_of}
use Rattle.hunk_blocks.specs.Values.{BlockBody, BlockValue, Code, Data, Bss, Reloc}
use Rattle.hunk_files.specs.Image.{block_content, block_relocations, filled, group_relocations, relocated}
use Rattle.hunk_files.specs.LoadFile.{AreInOrder, FitsHunk, standing}

-- These are the blocks of a hunk of a file of this number of hunks, which has this number of bytes in memory.
pub record Fits (hunks size : ℕ) (blocks : List BlockValue) : Type 0 where
  pub each : AllByRecursion (λ b. FitsHunk hunks (size / 4) b.body) blocks
  pub order : AreInOrder false (map (λ b. standing b.body) blocks)

-- The image of a hunk that has these blocks and this number of bytes in memory.
abbrev pub memory_of : List ℕ → ℕ → List BlockValue → List ℕ
memory_of bases size blocks =
    relocated bases (filled size (flat_map (λ b. block_content b.body) blocks)) (flat_map (λ b. block_relocations b.body) blocks)

-- What a block makes of the memory of its hunk: its content and zero bytes after it, or it relocates.
abbrev pub filled_by : List ℕ → List ℕ → BlockBody → List ℕ
filled_by bases memory (Code top words) = filled (length memory) (bytes_of words)
filled_by bases memory (Data top words) = filled (length memory) (bytes_of words)
filled_by bases memory (Bss size) = filled (length memory) []
filled_by bases memory (Reloc groups) = relocated bases memory (flat_map group_relocations groups)
filled_by bases memory _ = memory
