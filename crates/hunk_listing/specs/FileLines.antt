-- The lines of a load file and of an object file.
use Rattle.std.specs.Prelude.{◌==◌, ℕ, ◌+◌, ◌*◌, List, [], ◌∷◌, ◌++◌, length, codes, decimal, if◌then◌else◌}
use Rattle.std.specs.List.{flat_map}
use Rattle.hunk_words.specs.Bits.{memory_of, size_longs}
use Rattle.hunk_words.specs.declared.size_word.Memory.{Memory}
use Rattle.hunk_words.specs.declared.size_word.Memory.TheVariants as memories
use Rattle.hunk_files.specs.LoadFile.{HunkValue, LoadFileValue, TableEntry}
use Rattle.hunk_files.specs.LoadText.{table}
use Rattle.hunk_files.specs.Image.{declared_bytes}
use Rattle.hunk_files.specs.Items.{ItemValue, UnitItem, HunkItem, BlockItem, object_items}
use Rattle.hunk_files.specs.ObjectFile.{ObjectFileValue}
use Rattle.hunk_files.specs.Findings.{hunk_bytes}
use Rattle.hunk_listing.specs.Printed.{hexadecimal, name_text}
use Rattle.hunk_listing.specs.BlockLines.{block_lines}

-- the lines of the elements, numbered from here
abbrev pub numbered : {A : Type 0} → (ℕ → A → List ℕ) → ℕ → List A → List ℕ
numbered lines number [] = []
numbered lines number (x ∷ xs) = lines number x ++ numbered lines (number + 1) xs

-- ---- a load file

-- `load file D hunks D bytes`: how many hunks, and their declared bytes together
unfoldable pub load_line : ℕ → ℕ → List ℕ
load_line hunks bytes = codes "load file " ++ decimal hunks ++ codes " hunks " ++ decimal bytes ++ codes " bytes\n"

-- `rest D bytes`: how many follow the file
unfoldable pub rest_line : ℕ → List ℕ
rest_line rest = codes "rest " ++ decimal rest ++ codes " bytes\n"

abbrev pub where_rest : ℕ → List ℕ
where_rest rest = if rest == 0 then [] else rest_line rest

abbrev pub memory_text : Memory → List ℕ
memory_text memories.Any = codes "any"
memory_text memories.Chip = codes "chip"
memory_text memories.Fast = codes "fast"
memory_text (memories.Attributes attributes) = codes "attributes " ++ hexadecimal attributes

-- `hunk D D bytes M`: its number, its declared bytes and its memory
unfoldable pub hunk_line : ℕ → TableEntry → List ℕ
hunk_line number entry =
    codes "hunk " ++ decimal number ++ codes " " ++ decimal (4 * size_longs entry.word) ++ codes " bytes "
    ++ memory_text (memory_of entry.word entry.extra) ++ codes "\n"

abbrev pub hunk_lines : ℕ → HunkValue → List ℕ
hunk_lines number hunk = hunk_line number hunk.entry ++ flat_map block_lines hunk.blocks

abbrev pub load_head : LoadFileValue → List ℕ
load_head file = load_line (length file) (declared_bytes (table file))

-- of the file and the number of bytes that follow it
abbrev pub load_listing : LoadFileValue → ℕ → List ℕ
load_listing file rest = load_head file ++ numbered hunk_lines 0 file ++ where_rest rest

-- ---- an object file

-- `object file D units`
unfoldable pub object_line : ℕ → List ℕ
object_line units = codes "object file " ++ decimal units ++ codes " units\n"

-- `unit D TEXT`: its number and its name
unfoldable pub unit_line : ℕ → List ℕ → List ℕ
unit_line number name = codes "unit " ++ decimal number ++ codes " " ++ name_text name ++ codes "\n"

-- `hunk D D bytes`: its number in the unit, and the bytes of its content block
unfoldable pub object_hunk_line : ℕ → ℕ → List ℕ
object_hunk_line number bytes = codes "hunk " ++ decimal number ++ codes " " ++ decimal bytes ++ codes " bytes\n"

abbrev pub item_lines : ItemValue → List ℕ
item_lines (UnitItem number u) = unit_line number u.name
item_lines (HunkItem unit number h) = object_hunk_line number (hunk_bytes h)
item_lines (BlockItem unit hunk b) = block_lines b

-- of the file, and of what stands in it, in file order
abbrev pub object_listing : ObjectFileValue → List ℕ
object_listing file = object_line (length file) ++ flat_map item_lines (object_items file).value
