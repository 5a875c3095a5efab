-- What is collected of a hunk, block by block.
use Rattle.std.specs.Prelude.{ℕ, List}
use Rattle.std.specs.List.{flat_map}
use Rattle.hunk_words.specs.Longs.{bytes_of}
use Rattle.hunk_blocks.specs.Values.{BlockBody, BlockValue, RelocGroup, Code, Data}
use Rattle.hunk_files.specs.Image.{block_content, block_relocations, group_relocations, offsets}

-- the bytes of the last content block, after one more block
abbrev pub content_after : List ℕ → BlockBody → List ℕ
content_after bytes (Code top words) = bytes_of words
content_after bytes (Data top words) = bytes_of words
content_after bytes _ = bytes

abbrev pub groups_offsets : List RelocGroup → List ℕ
groups_offsets groups = offsets (flat_map group_relocations groups)

abbrev pub blocks_offsets : List BlockValue → List ℕ
blocks_offsets blocks = offsets (flat_map (λ b. block_relocations b.body) blocks)

abbrev pub blocks_content : List BlockValue → List ℕ
blocks_content blocks = flat_map (λ b. block_content b.body) blocks
