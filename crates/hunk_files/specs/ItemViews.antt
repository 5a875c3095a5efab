-- The items of a file that are read where they lie.
use Rattle.std.specs.Prelude.{ℕ, Bool, true, List, [], Option, Some, None, if◌then◌else◌}
use Rattle.hunk_blocks.specs.Placed.{Placed}
use Rattle.hunk_files.specs.InPlace.{GivesPart}
use Rattle.hunk_files.specs.Items.{ItemValue, UnitItem, HunkItem, BlockItem, item_text}
use Rattle.hunk_files.specs.Strip.{is_kept}
use Rattle.hunk_files.specs.declared.items.Item.{Item}
use Rattle.hunk_files.specs.declared.items.Item.TheVariants as items

-- the value of an item, with the byte at which it begins
abbrev pub item_seen : Item → Placed ItemValue
item_seen (items.Unit number view) = record { place = view.place; value = UnitItem number view.value }
item_seen (items.Hunk unit number view) = record { place = view.place; value = HunkItem unit number view.value }
item_seen (items.Block unit hunk view) = record { place = view.place; value = BlockItem unit hunk view.value }

-- Of items that are still to come the first was given, where one was left.
abbrev pub GivesItem : Placed (List ItemValue) → Option Item → Placed (List ItemValue) → Type 0
GivesItem old None new = GivesPart item_text old None new
GivesItem old (Some item) new = GivesPart item_text old (Some (item_seen item)) new

-- ---- items that are stripped

abbrev pub stays : ItemValue → Bool
stays (BlockItem unit hunk b) = is_kept b.body
stays item = true

-- what stays of an item
abbrev pub kept_text : ItemValue → List ℕ
kept_text item = if stays item then item_text item else []
