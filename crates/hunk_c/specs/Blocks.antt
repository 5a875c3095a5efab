-- The blocks of a file, in the caller's rows.
use Rattle.std.specs.Prelude.{ℕ, ◌+◌, ◌*◌, List, [], ◌∷◌, length, Option, Some, None, unwrap_or}
use Rattle.hunk_words.specs.Bits.{flags}
use Rattle.hunk_words.specs.Carriers.{saturated}
use Rattle.hunk_words.specs.Longs.{bytes_of}
use Rattle.hunk_blocks.specs.Parts.{block_text, ext_text, symbol_text}
use Rattle.hunk_blocks.specs.Values.{BlockBody, Reloc, Ext, Symbol, content_bytes}
use Rattle.hunk_files.specs.StandingBlocks.{StandingBlock}
use Rattle.hunk_files.specs.declared.hunk_file.HunkFile.{HunkFile}
use Rattle.hunk_c.specs.Entries.{entry_row}
use Rattle.hunk_parts.specs.Listing.{item_rows}
use Rattle.hunk_parts.specs.Parts.{payload_of}
use Rattle.hunk_c.specs.Relocations.{block_type, group_rows, relocated}
use Rattle.hunk_c.specs.Rows.{rows_in}
use Rattle.hunk_c.specs.Symbols.{symbol_row}
use Rattle.hunk_c.specs.declared.blocks.BlockRow.{BlockRow}
pub use Rattle.hunk_c.specs.declared.blocks.Span.{Span}

-- Where the longwords after a count stand in a block that begins at this byte: after its word and the count. Where there are none, 0.
abbrev pub span_of : ℕ → Option (List ℕ) → Span
span_of place (Some words) = record { place = place + 8; bytes = 4 * length words }
span_of place None = record { place = 0; bytes = 0 }

abbrev pub content : ℕ → BlockBody → Span
content place body = span_of place (payload_of body)

-- how many rows a block that begins at this byte has in the table of its items
abbrev pub item_count : ℕ → ℕ → ℕ → ℕ → BlockBody → ℕ
item_count unit hunk place word (Reloc groups) = length (group_rows (relocated unit hunk word) (place + 4) groups)
item_count unit hunk place word (Symbol entries) = length (item_rows (symbol_row unit hunk) symbol_text (place + 4) entries)
item_count unit hunk place word (Ext entries) = length (item_rows (entry_row unit hunk) ext_text (place + 4) entries)
item_count unit hunk place word body = 0

abbrev pub items : StandingBlock → ℕ
items s = saturated (item_count s.unit s.hunk s.block.place s.block.value.word s.block.value.body)

-- what the caller sees of a block
abbrev pub block_row : StandingBlock → BlockRow
block_row s = record {
  place = s.block.place;
  bytes = length (bytes_of (block_text s.block.value));
  unit = s.unit;
  hunk = s.hunk;
  content = (content s.block.place s.block.value.body).place;
  content_bytes = (content s.block.place s.block.value.body).bytes;
  memory = unwrap_or (content_bytes s.block.value.body) 0;
  items = items s;
  kind = block_type s.block.value.word;
  flags = flags s.block.value.word;
  reserved = 0;
}

abbrev pub block_rows : StandingBlock → List BlockRow
block_rows s = block_row s ∷ []

-- those of all blocks, in file order
abbrev pub blocks_in : HunkFile → List BlockRow
blocks_in = rows_in block_rows
