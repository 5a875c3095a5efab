-- What stands in a file, item by item, in file order.
use Rattle.std.specs.Prelude.{ℕ, ◌+◌, ◌*◌, ◌≤◌, List, [], ◌∷◌, ◌++◌, length, map, ⊤}
use Rattle.std.specs.List.{flat_map}
use Rattle.hunk_blocks.specs.Parts.{block_text}
use Rattle.hunk_blocks.specs.Placed.{Placed}
use Rattle.hunk_blocks.specs.Values.{BlockValue}
use Rattle.hunk_files.specs.Hunks.{block_texts}
use Rattle.hunk_files.specs.InPlace.{StandAt}
use Rattle.hunk_files.specs.LoadFile.{LoadFileValue}
use Rattle.hunk_files.specs.ObjectFile.{ObjectHunk, ObjectFileValue, UnitValue, unit_header}
use Rattle.hunk_files.specs.ObjectViews.{HunksAt, UnitsAt, hunks_at, units_at}
use Rattle.hunk_files.specs.Tables.{header_text}

-- A unit, with its number; a hunk, with the number of its unit and its own in that; or a block, with the numbers of its unit
-- and hunk.
pub data ItemValue : Type 0 where
  UnitItem : ℕ → UnitValue → ItemValue
  HunkItem : ℕ → ℕ → ObjectHunk → ItemValue
  BlockItem : ℕ → ℕ → BlockValue → ItemValue

-- the longwords that are the item's own: of a unit its header, of a hunk none
abbrev pub item_text : ItemValue → List ℕ
item_text (UnitItem number u) = unit_header u.name
item_text (HunkItem unit number h) = []
item_text (BlockItem unit hunk b) = block_text b

-- ---- the items of a file

abbrev pub blocks_items : ℕ → ℕ → List BlockValue → List ItemValue
blocks_items unit hunk blocks = map (BlockItem unit hunk) blocks

-- hunks of a unit, from the one with this number on
abbrev pub hunks_items : ℕ → ℕ → List ObjectHunk → List ItemValue
hunks_items unit number [] = []
hunks_items unit number (h ∷ rest) = HunkItem unit number h ∷ (blocks_items unit number h ++ hunks_items unit (number + 1) rest)

-- units, from the one with this number on
abbrev pub units_items : ℕ → List UnitValue → List ItemValue
units_items number [] = []
units_items number (u ∷ rest) = UnitItem number u ∷ (hunks_items number 0 u.hunks ++ units_items (number + 1) rest)

-- those of a load file, which is one unit; its header is before them
abbrev pub load_items : LoadFileValue → Placed (List ItemValue)
load_items hunks = record { place = 4 * length (header_text hunks); value = hunks_items 0 0 (map (λ h. h.blocks) hunks) }

abbrev pub object_items : ObjectFileValue → Placed (List ItemValue)
object_items units = record { place = 0; value = units_items 0 units }

-- ---- those that are still to come

-- the byte after blocks
abbrev pub end_of_blocks : Placed (List BlockValue) → ℕ
end_of_blocks blocks = blocks.place + 4 * length (block_texts blocks.value)

-- From this byte on stand hunks, the last of their unit, and then units. So many units and hunks are before it.
pub record ItemsAt (bytes : List ℕ) (units hunks start : ℕ) : Type 0 where
  pub here : HunksAt bytes start
  pub more : UnitsAt bytes (start + 4 * length (flat_map block_texts here.hunks))
  pub few_units : 4 * units ≤ start
  pub few_hunks : 4 * hunks ≤ start

-- blocks of the open hunk, the hunks after them, and the units after those
abbrev pub items_at : List ℕ → ℕ → ℕ → ℕ → ℕ → Placed (List BlockValue) → Placed (List ItemValue)
items_at bytes unit hunk units hunks blocks =
    let here = hunks_at bytes (end_of_blocks blocks) in
    let more = units_at bytes (here.place + 4 * length (flat_map block_texts here.value)) in
    record {
      place = blocks.place;
      value = blocks_items unit hunk blocks.value ++ (hunks_items unit hunks here.value ++ units_items units more.value);
    }

-- They stand up to the end of these bytes.
abbrev pub ItemsStand : List ℕ → Placed (List ItemValue) → Type 0
ItemsStand bytes items = StandAt (λ item. ⊤) item_text bytes items.place items.value []
