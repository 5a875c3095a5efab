-- The entries of a file's EXT blocks, in the caller's rows.
use Rattle.std.specs.Prelude.{ℕ, ◌+◌, List, [], length}
use Rattle.hunk_words.specs.Longs.{bytes_of}
use Rattle.hunk_blocks.specs.NameText.{before_zero}
use Rattle.hunk_blocks.specs.Parts.{ext_text}
use Rattle.hunk_blocks.specs.Values.{BlockBody, ExtEntry, Ext, ext_type}
use Rattle.hunk_files.specs.StandingBlocks.{StandingBlock}
use Rattle.hunk_files.specs.declared.hunk_file.HunkFile.{HunkFile}
use Rattle.hunk_parts.specs.Listing.{item_rows}
use Rattle.hunk_c.specs.Rows.{rows_in}
use Rattle.hunk_c.specs.declared.entries.EntryRow.{EntryRow}

-- what the caller sees of the entry of a EXT block at this byte: its name stands after its first longword
abbrev pub entry_row : ℕ → ℕ → ℕ → ExtEntry → EntryRow
entry_row unit hunk place e = record {
  place = place;
  unit = unit;
  hunk = hunk;
  name = place + 4;
  name_bytes = length (before_zero (bytes_of e.name));
  references = length e.offsets;
  value = e.value;
  kind = ext_type e;
  reserved = 0;
}

-- those of a block, whose entries stand after its word
abbrev pub body_rows : ℕ → ℕ → ℕ → BlockBody → List EntryRow
body_rows unit hunk place (Ext entries) = item_rows (entry_row unit hunk) ext_text (place + 4) entries
body_rows unit hunk place body = []

abbrev pub block_rows : StandingBlock → List EntryRow
block_rows s = body_rows s.unit s.hunk s.block.place s.block.value.body

-- those of all EXT blocks, in file order
abbrev pub entries_in : HunkFile → List EntryRow
entries_in = rows_in block_rows
