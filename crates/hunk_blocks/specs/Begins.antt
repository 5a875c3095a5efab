-- Bytes that begin with a block, and bytes that do not.
use Rattle.std.specs.Prelude.{◌≡◌, ℕ, ◌+◌, ◌*◌, ◌≤◌, List, ◌++◌, length, take, slice_index}
use Rattle.hunk_words.specs.Longs.{longs, bytes_of}
use Rattle.hunk_grammar.specs.declared.mode.Mode.{Mode}
use Rattle.hunk_blocks.specs.Values.{BlockBody, Reloc, Ext, Symbol, BlockValue, IsBlock}
use Rattle.hunk_blocks.specs.Parts.{block_text, group_text, ext_text, symbol_text}
use Rattle.hunk_blocks.specs.Modes.{IsOfMode}
use Rattle.hunk_blocks.specs.Placed.{Placed}
use Rattle.hunk_blocks.specs.Reading.{EndsItem}

-- the longword that a block's word is read from
abbrev pub first_long : List ℕ → ℕ
first_long bytes = slice_index (longs bytes) 0

-- The first n bytes are the text of this block of the mode.
pub record BeginsWithBlock (mode : Mode) (bytes : List ℕ) (b : BlockValue) (n : ℕ) : Type 0 where
  pub block : IsBlock b
  pub of_mode : IsOfMode mode b
  pub text : take n bytes ≡ bytes_of (block_text b)
  pub whole : n ≤ length bytes

-- No prefix of the bytes is the text of a block of the mode.
unfoldable pub BeginsWithNoBlock : Mode → List ℕ → Type 0
BeginsWithNoBlock mode bytes = (b : BlockValue) → IsBlock b → IsOfMode mode b → (rest : List ℕ) → bytes ≡ bytes_of (block_text b) ++ rest → ⊥

-- The first bytes, this number of them, are the text of some block of the mode.
pub record HasBlockText (mode : Mode) (bytes : List ℕ) (size : ℕ) : Type 0 where
  pub value : BlockValue
  pub begins : BeginsWithBlock mode bytes value size

-- ---- blocks of either kind of file

-- The first n bytes are the text of this block.
pub record IsFrontBlock (bytes : List ℕ) (b : BlockValue) (n : ℕ) : Type 0 where
  pub block : IsBlock b
  pub text : take n bytes ≡ bytes_of (block_text b)
  pub whole : n ≤ length bytes

-- The bytes begin with the text of some block.
pub record BeginsWithSomeBlock (bytes : List ℕ) : Type 0 where
  pub value : BlockValue
  pub size : ℕ
  pub front : IsFrontBlock bytes value size

-- ---- groups and entries, which take memory

-- A group or an entry of the body ends with longword number n after the block word, counted from 0.
abbrev pub EndsItemOf : BlockBody → ℕ → Type 0
EndsItemOf (Reloc groups) n = EndsItem group_text groups n
EndsItemOf (Ext entries) n = EndsItem ext_text entries n
EndsItemOf (Symbol entries) n = EndsItem symbol_text entries n
EndsItemOf body n = ⊥

-- The block that the bytes begin with has a group or an entry whose last longword stands at this byte.
pub record LacksItem (bytes : List ℕ) (at : ℕ) : Type 0 where
  pub value : BlockValue
  pub size : ℕ
  pub front : IsFrontBlock bytes value size
  pub number : ℕ
  pub ends : EndsItemOf value.body number
  pub place : at ≡ 4 * (1 + number)

-- The like, and the block is of the mode.
pub record LacksItemOfMode (mode : Mode) (bytes : List ℕ) (at : ℕ) : Type 0 where
  pub lacks : LacksItem bytes at
  pub of_mode : IsOfMode mode lacks.value

-- The like, of a block that begins at a byte of the input.
pub record LacksItemAt (block : Placed BlockValue) (at : ℕ) : Type 0 where
  pub number : ℕ
  pub ends : EndsItemOf block.value.body number
  pub place : at ≡ block.place + 4 * (1 + number)
