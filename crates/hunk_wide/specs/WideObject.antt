-- Wide spellings of an object file: blocks of short relocations.
use Rattle.std.specs.Prelude.{◌≡◌, ℕ, List, [], ◌∷◌, ◌++◌, ◌⊎◌}
use Rattle.hunk_words.specs.Bits.{kind}
use Rattle.hunk_words.specs.Longs.{bytes_of}
use Rattle.hunk_words.specs.declared.block_word.Kind.TheVariants as kinds
use Rattle.hunk_blocks.specs.Parts.{block_text}
use Rattle.hunk_blocks.specs.Values.{BlockValue}
use Rattle.hunk_files.specs.ObjectFile.{ObjectFileValue, ObjectHunk, UnitValue, unit_header}
use Rattle.hunk_wide.specs.Wide.{IsShort}

-- The bytes are spellings of these, one after the other.
abbrev pub SpellsAll : {A : Type 0} → (A → List ℕ → Type 0) → List A → List ℕ → Type 0
SpellsAll spells [] bytes = bytes ≡ []
SpellsAll spells (x ∷ xs) bytes =
    (front : List ℕ) × (back : List ℕ) × (bytes ≡ front ++ back) × spells x front × SpellsAll spells xs back

-- The bytes are a RELOC32 block in short. In an object file 3F7 is the word of another kind of block.
pub record IsObjectShort (b : BlockValue) (bytes : List ℕ) : Type 0 where
  pub short : IsShort b bytes
  pub kind_is : kind short.word ≡ kinds.Reloc32Short

abbrev pub SpellsObjectBlock : BlockValue → List ℕ → Type 0
SpellsObjectBlock b bytes = (bytes ≡ bytes_of (block_text b)) ⊎ IsObjectShort b bytes

-- No END is left out.
abbrev pub SpellsObjectHunk : ObjectHunk → List ℕ → Type 0
SpellsObjectHunk h bytes = SpellsAll SpellsObjectBlock h bytes

pub record SpellsUnit (u : UnitValue) (bytes : List ℕ) : Type 0 where
  pub hunks : List ℕ
  pub text : bytes ≡ bytes_of (unit_header u.name) ++ hunks
  pub spells : SpellsAll SpellsObjectHunk u.hunks hunks

-- The bytes are a wide spelling of the object file.
abbrev pub IsWideObject : ObjectFileValue → List ℕ → Type 0
IsWideObject o bytes = SpellsAll SpellsUnit o bytes
