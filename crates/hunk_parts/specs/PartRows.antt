-- The parts of a file in rows, each with where its bytes lie.
use Rattle.std.specs.Prelude.{ℕ, ◌+◌, ◌-◌, ◌*◌, List, [], ◌∷◌, length, Option, Some, None}
use Rattle.hunk_blocks.specs.Parts.{block_text, ext_text, group_text, symbol_text}
use Rattle.hunk_blocks.specs.Values.{BlockBody, BlockValue, Reloc, RelocGroup, Symbol, SymbolEntry, Ext, ExtEntry}
use Rattle.hunk_files.specs.Hunks.{block_texts}
use Rattle.hunk_files.specs.LoadFile.{HunkValue, LoadFileValue, TableEntry}
use Rattle.hunk_files.specs.ObjectFile.{ObjectFileValue, UnitValue, unit_header, unit_text}
use Rattle.hunk_files.specs.Tables.{header_text}
use Rattle.hunk_files.specs.declared.hunk_file.HunkFile.{HunkFile}
use Rattle.hunk_files.specs.declared.hunk_file.HunkFile.TheVariants as files
use Rattle.hunk_parts.specs.Listing.{in_turn, item_rows}
use Rattle.hunk_parts.specs.Parts.{FilePart, of_block, of_entry, of_group, of_hunk, of_symbol, of_unit, payload_of}
use Rattle.hunk_parts.specs.declared.part_row.PartRow.{PartRow}

-- the row of a part whose content and offsets lie from these bytes on; 0 where its kind has none
abbrev pub row_at : ℕ → ℕ → FilePart → PartRow
row_at content offsets q = record {
  what = q.what;
  word = q.word;
  value = q.value;
  reserved = 0;
  content = content;
  content_bytes = 4 * length q.content;
  offsets = offsets;
  offset_count = length q.offsets;
}

-- ---- the items of a block, each from this byte on

-- a group: its offsets stand after their number and the target
abbrev pub group_row : ℕ → RelocGroup → PartRow
group_row place g = row_at 0 (place + 8) (of_group g)

-- a symbol: its name stands after its first longword
abbrev pub symbol_row : ℕ → SymbolEntry → PartRow
symbol_row place s = row_at (place + 4) 0 (of_symbol s)

-- an entry: its name stands after its first longword, and its offsets are its last ones
abbrev pub entry_row : ℕ → ExtEntry → PartRow
entry_row place e = row_at (place + 4) (place + 4 * length (ext_text e) - 4 * length e.offsets) (of_entry e)

abbrev pub items_rows : ℕ → BlockBody → List PartRow
items_rows place (Reloc groups) = item_rows group_row group_text place groups
items_rows place (Symbol entries) = item_rows symbol_row symbol_text place entries
items_rows place (Ext entries) = item_rows entry_row ext_text place entries
items_rows place body = []

-- ---- blocks, hunks and units

-- where longwords after a count stand, in a block from this byte on: after its word and the count
abbrev pub payload_place : ℕ → Option (List ℕ) → ℕ
payload_place place (Some words) = place + 8
payload_place place None = 0

abbrev pub block_row : ℕ → BlockValue → PartRow
block_row place b = row_at (payload_place place (payload_of b.body)) 0 (of_block b)

-- a block from this byte on: its items stand after its word
abbrev pub block_rows : ℕ → BlockValue → List PartRow
block_rows place b = block_row place b ∷ items_rows (place + 4) b.body

abbrev pub blocks_rows : ℕ → List BlockValue → List PartRow
blocks_rows = in_turn block_rows block_text

abbrev pub hunk_row : TableEntry → PartRow
hunk_row e = row_at 0 0 (of_hunk e)

-- a hunk of a load file, whose blocks stand from this byte on
abbrev pub hunk_rows : ℕ → HunkValue → List PartRow
hunk_rows place h = hunk_row h.entry ∷ blocks_rows place h.blocks

-- a unit from this byte on: its name stands after its word and a count
abbrev pub unit_row : ℕ → List ℕ → PartRow
unit_row place name = row_at (place + 8) 0 (of_unit name)

abbrev pub unit_rows : ℕ → UnitValue → List PartRow
unit_rows place u = unit_row place u.name ∷ in_turn blocks_rows block_texts (place + 4 * length (unit_header u.name)) u.hunks

-- ---- files

-- the blocks of a load file stand after its header
abbrev pub load_rows : LoadFileValue → List PartRow
load_rows hunks = in_turn hunk_rows (λ h. block_texts h.blocks) (4 * length (header_text hunks)) hunks

abbrev pub object_rows : ObjectFileValue → List PartRow
object_rows units = in_turn unit_rows unit_text 0 units

-- The parts of a file, in its order, but each size word before the blocks of its hunk.
abbrev pub part_rows : HunkFile → List PartRow
part_rows (files.Load hunks rest) = load_rows hunks
part_rows (files.Object units) = object_rows units
