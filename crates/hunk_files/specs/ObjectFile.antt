-- Object-file values and their text.
use Rattle.std.specs.Prelude.{◌≡◌, ℕ, ◌<◌, Bool, true, false, List, ◌∷◌, ◌++◌, length, map}
use Rattle.std.specs.List.{flat_map, AllByRecursion}
use Rattle.hunk_words.specs.Limits.{name_limit}
use Rattle.hunk_words.specs.declared.reason.Reason.{Reason}
use Rattle.hunk_words.specs.declared.reason.Reason.TheVariants as reasons
use Rattle.hunk_words.specs.Longs.{bytes_of}
pub use Rattle.hunk_words.specs.Bits.{unit_word}
use Rattle.hunk_blocks.specs.Values.{BlockValue, IsBlock, IsPayload}
use Rattle.hunk_blocks.specs.Parts.{block_text}
use Rattle.hunk_files.specs.LoadFile.{standing, AreInOrder}

-- ---- values

abbrev pub ObjectHunk : Type 0
ObjectHunk = List BlockValue

pub record UnitValue : Type 0 where
  pub name : List ℕ
  pub hunks : List ObjectHunk

abbrev pub ObjectFileValue : Type 0
ObjectFileValue = List UnitValue

-- The blocks are in the order of a hunk of a load file; all relocation kinds and EXT come after the content block.
pub record IsObjectHunk (h : ObjectHunk) : Type 0 where
  pub blocks : AllByRecursion IsBlock h
  pub order : AreInOrder false (map (λ b. standing b.body) h)

pub record IsUnit (u : UnitValue) : Type 0 where
  pub name : IsPayload name_limit u.name
  pub hunks : AllByRecursion IsObjectHunk u.hunks

pub record IsObjectFile (o : ObjectFileValue) : Type 0 where
  pub some : 0 < length o
  pub units : AllByRecursion IsUnit o

-- ---- text

abbrev pub unit_header : List ℕ → List ℕ
unit_header name = unit_word ∷ length name ∷ name

abbrev pub unit_text : UnitValue → List ℕ
unit_text u = unit_header u.name ++ flat_map (flat_map block_text) u.hunks

-- The longwords of an object file.
abbrev pub object_text : ObjectFileValue → List ℕ
object_text o = flat_map unit_text o

-- All of the bytes are the text of an object file.
pub record AreObjectFile (bytes : List ℕ) : Type 0 where
  pub value : ObjectFileValue
  pub is_object_file : IsObjectFile value
  pub text_is : bytes ≡ bytes_of (object_text value)

-- The bytes are the text of no object file.
abbrev pub IsNoObjectFile : List ℕ → Type 0
IsNoObjectFile bytes = (o : ObjectFileValue) → IsObjectFile o → bytes ≡ bytes_of (object_text o) → ⊥

-- ---- refusals

-- The reasons that an object file may be refused for.
abbrev pub is_object_refusal : Reason → Bool
is_object_refusal reasons.Library = true
is_object_refusal reasons.BothBits = true
is_object_refusal reasons.Overlay = true
is_object_refusal reasons.Break = true
is_object_refusal reasons.ShortReloc = true
is_object_refusal reasons.Misplaced = true
is_object_refusal reasons.UnknownBlock = true
is_object_refusal reasons.SecondContent = true
is_object_refusal reasons.BeforeContent = true
is_object_refusal reasons.NoContent = true
is_object_refusal reasons.NameWord = true
is_object_refusal reasons.ExtKind = true
is_object_refusal reasons.Truncated = true
is_object_refusal reasons.OutOfMemory = true
is_object_refusal _ = false
