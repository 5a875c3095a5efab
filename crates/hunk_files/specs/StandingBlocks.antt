-- The blocks of a file, each with where it stands.
use Rattle.std.specs.Prelude.{ℕ, ◌+◌, ◌*◌, List, [], ◌∷◌, length}
use Rattle.hunk_blocks.specs.Parts.{block_text}
use Rattle.hunk_blocks.specs.Placed.{Placed}
use Rattle.hunk_blocks.specs.Values.{BlockValue}
use Rattle.hunk_files.specs.Items.{ItemValue, UnitItem, HunkItem, BlockItem, load_items, object_items}
use Rattle.hunk_files.specs.ObjectFile.{unit_header}
use Rattle.hunk_files.specs.declared.hunk_file.HunkFile.{HunkFile}
use Rattle.hunk_files.specs.declared.hunk_file.HunkFile.TheVariants as files

-- a block in a hunk of a unit, both counted from 0, the hunk in its unit; a load file is one unit
pub record StandingBlock : Type 0 where
  pub unit : ℕ
  pub hunk : ℕ
  pub block : Placed BlockValue

-- what stands in a file, in file order
abbrev pub file_items : HunkFile → Placed (List ItemValue)
file_items (files.Load hunks rest) = load_items hunks
file_items (files.Object units) = object_items units

-- the blocks among items, from this byte of the file on
abbrev pub items_blocks : ℕ → List ItemValue → List StandingBlock
items_blocks place [] = []
items_blocks place (UnitItem number u ∷ rest) = items_blocks (place + 4 * length (unit_header u.name)) rest
items_blocks place (HunkItem unit number h ∷ rest) = items_blocks place rest
items_blocks place (BlockItem unit hunk b ∷ rest) =
    record { unit = unit; hunk = hunk; block = record { place = place; value = b } }
    ∷ items_blocks (place + 4 * length (block_text b)) rest

-- all blocks of a file, in file order
abbrev pub standing_blocks : HunkFile → List StandingBlock
standing_blocks file = items_blocks (file_items file).place (file_items file).value
