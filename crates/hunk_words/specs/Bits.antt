-- The bit fields of size words, block words, and the words of SYMBOL and EXT entries.
use Rattle.std.specs.Prelude.{ℕ, ◌+◌, ◌*◌, ◌/◌, ◌%◌, ◌^◌, ◌==◌, Bool, true, false, if◌then◌else◌}
use Rattle.hunk_words.specs.Limits.{name_limit, content_limit}
use Rattle.hunk_words.specs.declared.block_word.Kind.{Kind}
use Rattle.hunk_words.specs.declared.block_word.Kind.TheVariants as kinds
use Rattle.hunk_words.specs.declared.size_word.Memory.{Memory}
use Rattle.hunk_words.specs.declared.size_word.Memory.TheVariants as memories

-- ---- size words

-- the number of longwords, in the low 30 bits
abbrev pub size_longs : ℕ → ℕ
size_longs word = word % content_limit

-- bits 30 and 31 above them, which ask for a memory
abbrev pub memory_bits : ℕ → ℕ
memory_bits word = word / content_limit

-- the word of these two bits and this number of longwords
abbrev pub size_word : ℕ → ℕ → ℕ
size_word bits longs = bits * content_limit + longs

-- Both bits are set: in a header's table one more longword follows, and no block word may have them.
abbrev pub has_both_bits : ℕ → Bool
has_both_bits word = memory_bits word == 3

-- how many longwords an entry of a table has that begins with this size word
abbrev pub entry_longs : ℕ → ℕ
entry_longs word = if has_both_bits word then 2 else 1

-- the memory that the bits ask for, with the longword that follows where both are set
abbrev pub memory_of : ℕ → ℕ → Memory
memory_of word extra =
    if memory_bits word == 0 then memories.Any
    else if memory_bits word == 1 then memories.Chip
    else if memory_bits word == 2 then memories.Fast
    else memories.Attributes extra

-- ---- block words

-- the top three bits
abbrev pub flags : ℕ → ℕ
flags word = word / 2 ^ 29

-- the advisory flag, bit 29
abbrev pub is_advisory : ℕ → Bool
is_advisory word = word / 2 ^ 29 % 2 == 1

-- its memory flags, bits 30 and 31
abbrev pub is_chip : ℕ → Bool
is_chip word = memory_bits word % 2 == 1

abbrev pub is_fast : ℕ → Bool
is_fast word = word / 2 ^ 31 % 2 == 1

-- the block word of a header, with which a load file begins
abbrev pub header_word : ℕ
header_word = 0x3F3

-- the block word with which each unit of an object file begins
abbrev pub unit_word : ℕ
unit_word = 0x3E7

-- the block word with which a library begins
abbrev pub library_word : ℕ
library_word = 0x3FA

-- the block word of a BSS block, without flags
abbrev pub bss_word : ℕ
bss_word = 0x3EB

-- the block word with which each hunk ends, without flags
abbrev pub end_word : ℕ
end_word = 0x3F2

abbrev pub kind_of_number : ℕ → Kind
kind_of_number n =
    if n == unit_word then kinds.Unit
    else if n == 0x3E8 then kinds.Name
    else if n == 0x3E9 then kinds.Code
    else if n == 0x3EA then kinds.Data
    else if n == bss_word then kinds.Bss
    else if n == 0x3EC then kinds.Reloc32
    else if n == 0x3ED then kinds.Reloc16
    else if n == 0x3EE then kinds.Reloc8
    else if n == 0x3EF then kinds.Ext
    else if n == 0x3F0 then kinds.Symbol
    else if n == 0x3F1 then kinds.Debug
    else if n == end_word then kinds.End
    else if n == header_word then kinds.Header
    else if n == 0x3F5 then kinds.Overlay
    else if n == 0x3F6 then kinds.Break
    else if n == 0x3F7 then kinds.Drel32
    else if n == 0x3F8 then kinds.Drel16
    else if n == 0x3F9 then kinds.Drel8
    else if n == library_word then kinds.Lib
    else if n == 0x3FB then kinds.Index
    else if n == 0x3FC then kinds.Reloc32Short
    else if n == 0x3FD then kinds.RelReloc32
    else if n == 0x3FE then kinds.AbsReloc16
    else kinds.Unknown n

-- the kind of a block, by the low 29 bits of its word
unfoldable pub kind : ℕ → Kind
kind word = kind_of_number (word % 2 ^ 29)

-- the relocation kinds of docs/FORMAT.md
abbrev pub is_relocation : Kind → Bool
is_relocation kinds.Reloc32 = true
is_relocation kinds.Reloc16 = true
is_relocation kinds.Reloc8 = true
is_relocation kinds.Drel32 = true
is_relocation kinds.Drel16 = true
is_relocation kinds.Drel8 = true
is_relocation kinds.RelReloc32 = true
is_relocation kinds.AbsReloc16 = true
is_relocation _ = false

-- ---- words of entries

-- the number of longwords of the name, in the low 24 bits
abbrev pub name_longs : ℕ → ℕ
name_longs word = word % name_limit

-- the type of an external entry, in the 8 bits above them
abbrev pub entry_type : ℕ → ℕ
entry_type word = word / name_limit
