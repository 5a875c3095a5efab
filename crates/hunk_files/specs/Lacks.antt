-- Where memory may be refused in a file: at the last longword of a part that takes memory.
use Rattle.std.specs.Prelude.{◌≡◌, ℕ, ◌+◌, ◌*◌, List, ◌∷◌, ◌++◌, length, ◌⊎◌}
use Rattle.std.specs.List.{flat_map}
use Rattle.hunk_blocks.specs.Values.{BlockValue}
use Rattle.hunk_blocks.specs.Parts.{block_text}
use Rattle.hunk_blocks.specs.Begins.{EndsItemOf}
use Rattle.hunk_files.specs.LoadFile.{LoadFileValue}
use Rattle.hunk_files.specs.LoadText.{table}
use Rattle.hunk_files.specs.Fault.{BeginsWithLoadFile}
use Rattle.hunk_files.specs.Hunks.{block_texts}
use Rattle.hunk_files.specs.ObjectFile.{UnitValue, ObjectFileValue, AreObjectFile, unit_header, unit_text}
use Rattle.hunk_files.specs.Tables.{entry_text, header_text}

-- ---- a longword of a text, by its number, counted from 0

-- It is the last.
abbrev pub IsLast : List ℕ → ℕ → Type 0
IsLast text n = n + 1 ≡ length text

-- It stands after this number of longwords, and counted from there this holds of it.
pub record After (count : ℕ) (Ends : ℕ → Type 0) (n : ℕ) : Type 0 where
  pub number : ℕ
  pub ends : Ends number
  pub place : n ≡ count + number

-- Of texts that stand one after the other it is in this item's, and counted from there this holds of it.
pub record Within {A : Type 0} (text : A → List ℕ) (Ends : A → ℕ → Type 0) (items : List A) (n : ℕ) : Type 0 where
  pub before : List A
  pub item : A
  pub rest : List A
  pub split : items ≡ before ++ item ∷ rest
  pub after : After (length (flat_map text before)) (Ends item) n

-- ---- the parts

-- It ends the block, or a group or an entry after the block's word.
abbrev pub EndsBlockPart : BlockValue → ℕ → Type 0
EndsBlockPart b n = IsLast (block_text b) n ⊎ After 1 (EndsItemOf b.body) n

-- It ends the hunk, or a part of a block.
abbrev pub EndsHunkPart : List BlockValue → ℕ → Type 0
EndsHunkPart blocks n = IsLast (block_texts blocks) n ⊎ Within block_text EndsBlockPart blocks n

-- It ends the unit, or a part of a hunk after the unit's header.
abbrev pub EndsUnitPart : UnitValue → ℕ → Type 0
EndsUnitPart u n = IsLast (unit_text u) n ⊎ After (length (unit_header u.name)) (Within block_texts EndsHunkPart u.hunks) n

abbrev pub EndsObjectPart : ObjectFileValue → ℕ → Type 0
EndsObjectPart o n = Within unit_text EndsUnitPart o n

-- It ends an entry of the table, which stands after five longwords, or a part of a hunk after the header.
abbrev pub EndsLoadPart : LoadFileValue → ℕ → Type 0
EndsLoadPart v n =
    After 5 (Within entry_text (λ e. IsLast (entry_text e)) (table v)) n
    ⊎ After (length (header_text v)) (Within (λ h. block_texts h.blocks) (λ h. EndsHunkPart h.blocks) v) n

-- ---- in bytes

-- A longword of the text that begins at byte start stands at this byte, and this holds of it.
pub record EndsAt (Ends : ℕ → Type 0) (start at : ℕ) : Type 0 where
  pub number : ℕ
  pub ends : Ends number
  pub place : at ≡ start + 4 * number

-- The bytes begin with a load file, and at this byte stands the last longword of a part of it.
pub record LacksLoadPart (bytes : List ℕ) (at : ℕ) : Type 0 where
  pub file : BeginsWithLoadFile bytes
  pub ends : EndsAt (EndsLoadPart file.value) 0 at

-- The bytes are an object file, and at this byte stands the last longword of a part of it.
pub record LacksObjectPart (bytes : List ℕ) (at : ℕ) : Type 0 where
  pub file : AreObjectFile bytes
  pub ends : EndsAt (EndsObjectPart file.value) 0 at
