-- The symbols of a file, in the caller's rows.
use Rattle.std.specs.Prelude.{ℕ, ◌+◌, List, [], length}
use Rattle.hunk_words.specs.Longs.{bytes_of}
use Rattle.hunk_blocks.specs.NameText.{before_zero}
use Rattle.hunk_blocks.specs.Parts.{symbol_text}
use Rattle.hunk_blocks.specs.Values.{BlockBody, SymbolEntry, Symbol}
use Rattle.hunk_files.specs.StandingBlocks.{StandingBlock}
use Rattle.hunk_files.specs.declared.hunk_file.HunkFile.{HunkFile}
use Rattle.hunk_parts.specs.Listing.{item_rows}
use Rattle.hunk_c.specs.Rows.{rows_in}
use Rattle.hunk_c.specs.declared.symbols.SymbolRow.{SymbolRow}

-- what the caller sees of the entry of a SYMBOL block at this byte: its name stands after its first longword
abbrev pub symbol_row : ℕ → ℕ → ℕ → SymbolEntry → SymbolRow
symbol_row unit hunk place e = record {
  place = place;
  unit = unit;
  hunk = hunk;
  name = place + 4;
  name_bytes = length (before_zero (bytes_of e.name));
  value = e.value;
  reserved = 0;
}

-- those of a block, whose entries stand after its word
abbrev pub body_rows : ℕ → ℕ → ℕ → BlockBody → List SymbolRow
body_rows unit hunk place (Symbol entries) = item_rows (symbol_row unit hunk) symbol_text (place + 4) entries
body_rows unit hunk place body = []

abbrev pub block_rows : StandingBlock → List SymbolRow
block_rows s = body_rows s.unit s.hunk s.block.place s.block.value.body

-- those of all SYMBOL blocks, in file order
abbrev pub symbols_in : HunkFile → List SymbolRow
symbols_in = rows_in block_rows
