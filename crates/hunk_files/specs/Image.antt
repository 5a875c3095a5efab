-- What a load file says of memory: declared bytes, content, relocations and image.
use Rattle.std.specs.Prelude.{◌≡◌, ℕ, ◌+◌, ◌-◌, ◌*◌, ◌%◌, ◌^◌, List, [], ◌++◌, length, map, take, drop, get_or, replicate}
use Rattle.std.specs.List.{flat_map, fold, sum_by}
use Rattle.std.specs.Int.{w32, to_be_bytes, from_be_bytes}
use Rattle.hunk_words.specs.Longs.{bytes_of}
use Rattle.hunk_words.specs.Bits.{size_longs}
use Rattle.hunk_blocks.specs.Values.{RelocGroup, BlockBody, Code, Data, Reloc}
use Rattle.hunk_files.specs.LoadFile.{TableEntry, HunkValue, LoadFileValue, declared_longs}

-- The bytes that a table declares.
abbrev pub declared_bytes : List TableEntry → ℕ
declared_bytes table = sum_by (λ e. 4 * size_longs e.word) table

abbrev pub block_content : BlockBody → List ℕ
block_content (Code top words) = bytes_of words
block_content (Data top words) = bytes_of words
block_content _ = []

abbrev pub filled : ℕ → List ℕ → List ℕ
filled size bytes = bytes ++ replicate (size - length bytes) 0

-- The bytes of the content block, then zero bytes up to the declared bytes.
abbrev pub content : HunkValue → List ℕ
content h = filled (4 * declared_longs h) (flat_map (λ b. block_content b.body) h.blocks)

-- offsets, each with its target
abbrev pub group_relocations : RelocGroup → List (ℕ × ℕ)
group_relocations g = map (λ offset. (offset, g.target)) g.offsets

abbrev pub block_relocations : BlockBody → List (ℕ × ℕ)
block_relocations (Reloc groups) = flat_map group_relocations groups
block_relocations _ = []

-- The offsets and targets of all relocations of a hunk, in file order.
abbrev pub relocations : HunkValue → List (ℕ × ℕ)
relocations h = flat_map (λ b. block_relocations b.body) h.blocks

-- their offsets alone
abbrev pub offsets : List (ℕ × ℕ) → List ℕ
offsets pairs = map (λ pair. pair.0) pairs

-- The bytes with the long at the offset increased, modulo 2 ^ 32.
abbrev pub add_at : List ℕ → ℕ → ℕ → List ℕ
add_at bytes offset n =
    take offset bytes
    ++ to_be_bytes w32 ((from_be_bytes w32 (take 4 (drop offset bytes)) + n) % 2 ^ 32)
    ++ drop (offset + 4) bytes

abbrev pub relocated : List ℕ → List ℕ → List (ℕ × ℕ) → List ℕ
relocated bases bytes pairs = fold (λ b pair. add_at b pair.0 (get_or bases pair.1 0)) bytes pairs

-- The memory of a hunk, where the hunks lie at these bases.
abbrev pub image : List ℕ → HunkValue → List ℕ
image bases h = relocated bases (content h) (relocations h)

-- The memory of all hunks, one after the other.
abbrev pub images : List ℕ → LoadFileValue → List ℕ
images bases v = flat_map (image bases) v

-- They declare the same, and have the same memory at all bases.
pub record HasMemoryOf (v w : LoadFileValue) : Type 0 where
  pub table : map (λ h. h.entry) v ≡ map (λ h. h.entry) w
  pub images : (bases : List ℕ) → images bases v ≡ images bases w
