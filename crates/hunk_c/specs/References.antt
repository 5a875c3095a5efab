-- The references of a file's EXT entries, in the caller's rows.
use Rattle.std.specs.Prelude.{ℕ, ◌+◌, ◌-◌, ◌*◌, List, [], ◌∷◌, ◌++◌, length}
use Rattle.hunk_words.specs.Carriers.{saturated}
use Rattle.hunk_blocks.specs.Parts.{ext_text}
use Rattle.hunk_blocks.specs.Values.{BlockBody, ExtEntry, Ext}
use Rattle.hunk_files.specs.Findings.{reference_width}
use Rattle.hunk_files.specs.StandingBlocks.{StandingBlock, standing_blocks}
use Rattle.hunk_files.specs.declared.hunk_file.HunkFile.{HunkFile}
use Rattle.hunk_parts.specs.Listing.{item_rows}
use Rattle.hunk_c.specs.declared.references.ReferenceRow.{ReferenceRow}

-- what the caller sees of an offset that stands at this byte, of the entry with this number
abbrev pub reference_row : ℕ → ℕ → ℕ → ℕ → ReferenceRow
reference_row entry width place offset =
    record { entry = entry; place = place; offset = offset; width = width; reserved = 0 }

-- an offset is a longword
abbrev pub long_text : ℕ → List ℕ
long_text offset = offset ∷ []

-- those of the entry with this number that ends at this byte: its offsets are its last longwords
abbrev pub entry_references : ℕ → ℕ → ExtEntry → List ReferenceRow
entry_references number end e =
    item_rows (reference_row (saturated number) (reference_width e)) long_text (end - 4 * length e.offsets) e.offsets

-- those of entries, from this byte and this number on
abbrev pub entries_references : ℕ → ℕ → List ExtEntry → List ReferenceRow
entries_references number place [] = []
entries_references number place (e ∷ rest) =
    entry_references number (place + 4 * length (ext_text e)) e
    ++ entries_references (number + 1) (place + 4 * length (ext_text e)) rest

-- the entries of a body, and their references
abbrev pub body_entries : BlockBody → ℕ
body_entries (Ext entries) = length entries
body_entries body = 0

abbrev pub body_references : ℕ → ℕ → BlockBody → List ReferenceRow
body_references number place (Ext entries) = entries_references number (place + 4) entries
body_references number place body = []

-- those of blocks whose first entry has this number
abbrev pub blocks_references : ℕ → List StandingBlock → List ReferenceRow
blocks_references number [] = []
blocks_references number (s ∷ rest) =
    body_references number s.block.place s.block.value.body
    ++ blocks_references (number + body_entries s.block.value.body) rest

-- those of all EXT blocks, in file order: an entry's number is that of its row in the table of entries
abbrev pub references_in : HunkFile → List ReferenceRow
references_in file = blocks_references 0 (standing_blocks file)
