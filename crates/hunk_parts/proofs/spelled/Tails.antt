-- What parts are from one on: the items of the open list, the blocks of the open hunk, and what follows it.
use Rattle.std.proofs.Common.{◌≡◌, ℕ, zero, suc, true, List, [], ◌++◌, Option, Some, None}
use Rattle.std.specs.Prelude.{⊤}
use Rattle.std.specs.List.{AllByRecursion, flat_map}
use Rattle.hunk_words.specs.Bits.{is_relocation}
use Rattle.hunk_words.specs.Longs.{IsLong, AreLongs}
use Rattle.hunk_words.specs.declared.block_word.Kind.{Kind}
use Rattle.hunk_words.specs.declared.block_word.Kind.TheVariants as kinds
use Rattle.hunk_grammar.specs.declared.object_position.WordPlace.{WordPlace}
use Rattle.hunk_grammar.specs.declared.object_position.WordPlace.TheVariants.{InHunk}
use Rattle.hunk_blocks.specs.Values.{BlockBody, BlockValue, RelocGroup, Reloc, Ext, Symbol, End, IsBlock, IsExtEntry, IsGroup, IsSymbolEntry}
use Rattle.hunk_files.specs.LoadFile.{AreInOrder, FitsGroup, FitsHunk, IsHunkBlock}
use Rattle.hunk_files.proofs.walk.FileText.{standings}
use Rattle.hunk_parts.specs.Parts.{FilePart, block_file_parts, item_parts}

-- its numbers are longwords
pub record HasLongs (q : FilePart) : Type 0 where
  pub word : IsLong q.word
  pub value : IsLong q.value
  pub content : AreLongs q.content
  pub offsets : AreLongs q.offsets

-- ---- what fits a file of so many hunks, in one that declares these longwords; 0 hunks are an object file

abbrev pub FitsBlock : ℕ → ℕ → BlockValue → Type 0
FitsBlock zero longs b = IsBlock b
FitsBlock (suc n) longs b = IsHunkBlock (suc n) longs b

abbrev pub FitsBody : ℕ → ℕ → BlockBody → Type 0
FitsBody zero longs body = ⊤
FitsBody (suc n) longs body = FitsHunk (suc n) longs body

abbrev pub FitsOneGroup : ℕ → ℕ → RelocGroup → Type 0
FitsOneGroup zero longs g = ⊤
FitsOneGroup (suc n) longs g = FitsGroup (suc n) longs g

-- ---- the open list

-- a list of a block of this kind
abbrev pub IsListOf : Kind → BlockBody → Type 0
IsListOf k (Reloc groups) = (is_relocation k ≡ true) × AllByRecursion IsGroup groups
IsListOf k (Symbol entries) = (k ≡ kinds.Symbol) × AllByRecursion IsSymbolEntry entries
IsListOf k (Ext entries) = (k ≡ kinds.Ext) × AllByRecursion IsExtEntry entries
IsListOf k body = ⊥

-- the body with the items that are to come
abbrev pub AreItems : ℕ → ℕ → Option Kind → BlockBody → Type 0
AreItems hunks longs None body = body ≡ End
AreItems hunks longs (Some k) body = IsListOf k body × FitsBody hunks longs body

-- ---- the open hunk

abbrev pub StandAt : WordPlace → List BlockValue → Type 0
StandAt (InHunk has) blocks = AreInOrder has (standings blocks)
StandAt place blocks = blocks ≡ []

pub record Tail (hunks longs : ℕ) (place : WordPlace) (list : Option Kind) (qs rest : List FilePart) : Type 0 where
  pub items : BlockBody
  pub are_items : AreItems hunks longs list items
  pub blocks : List BlockValue
  pub are_blocks : AllByRecursion (FitsBlock hunks longs) blocks
  pub stand : StandAt place blocks
  pub parts : qs ≡ item_parts items ++ (flat_map block_file_parts blocks ++ rest)
