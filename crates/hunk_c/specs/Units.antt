-- The units of an object file, in the caller's rows.
use Rattle.std.specs.Prelude.{ℕ, ◌+◌, ◌*◌, List, [], ◌∷◌, length, Option, Some, None}
use Rattle.hunk_words.specs.Longs.{bytes_of}
use Rattle.hunk_blocks.specs.NameText.{before_zero}
use Rattle.hunk_blocks.specs.Placed.{Placed}
use Rattle.hunk_files.specs.Items.{ItemValue, UnitItem, item_text}
use Rattle.hunk_files.specs.ObjectFile.{UnitValue, unit_header}
use Rattle.hunk_files.specs.StandingBlocks.{file_items}
use Rattle.hunk_files.specs.declared.hunk_file.HunkFile.{HunkFile}
use Rattle.hunk_c.specs.declared.units.UnitRow.{UnitRow}

-- what the caller sees of a unit that begins at this byte: its name stands after its word and a count
abbrev pub unit_row : ℕ → UnitValue → UnitRow
unit_row place u = record {
  place = place;
  name = place + 8;
  name_bytes = length (before_zero (bytes_of u.name));
  hunks = length u.hunks;
  reserved = 0;
}

-- how many hunks the unit has that is open, where one is, and its row
abbrev pub open_hunks : Option (Placed UnitValue) → ℕ
open_hunks None = 0
open_hunks (Some u) = length u.value.hunks

abbrev pub open_rows : Option (Placed UnitValue) → List UnitRow
open_rows None = []
open_rows (Some u) = unit_row u.place u.value ∷ []

-- those of the units among items, from this byte of the file on
abbrev pub items_units : ℕ → List ItemValue → List UnitRow
items_units place [] = []
items_units place (UnitItem number u ∷ rest) = unit_row place u ∷ items_units (place + 4 * length (unit_header u.name)) rest
items_units place (item ∷ rest) = items_units (place + 4 * length (item_text item)) rest

-- those of all units of a file, in file order; among the items of a load file there are none
abbrev pub units_in : HunkFile → List UnitRow
units_in file = items_units (file_items file).place (file_items file).value
