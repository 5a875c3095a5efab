-- The relocations of a file, in the caller's rows.
use Rattle.std.specs.Prelude.{ℕ, ◌+◌, ◌*◌, ◌%◌, ◌^◌, List, [], ◌∷◌, ◌++◌, length}
use Rattle.hunk_words.specs.Bits.{kind}
use Rattle.hunk_blocks.specs.Parts.{group_text}
use Rattle.hunk_blocks.specs.Values.{BlockBody, RelocGroup, Reloc}
use Rattle.hunk_files.specs.Findings.{relocation_width}
use Rattle.hunk_files.specs.StandingBlocks.{StandingBlock}
use Rattle.hunk_files.specs.declared.hunk_file.HunkFile.{HunkFile}
use Rattle.hunk_c.specs.Rows.{rows_in}
use Rattle.hunk_c.specs.declared.relocations.RelocationRow.{RelocationRow}
pub use Rattle.hunk_c.specs.declared.relocations.Relocated.{Relocated}

-- the number of its type, in the low 29 bits
abbrev pub block_type : ℕ → ℕ
block_type word = word % 2 ^ 29

-- a relocation block of this hunk, by its word
abbrev pub relocated : ℕ → ℕ → ℕ → Relocated
relocated unit hunk word = record { unit = unit; hunk = hunk; kind = block_type word; width = relocation_width (kind word) }

-- what the caller sees of an offset that stands at this byte
abbrev pub relocation_row : Relocated → ℕ → ℕ → ℕ → RelocationRow
relocation_row r target place offset = record {
  place = place;
  unit = r.unit;
  hunk = r.hunk;
  kind = r.kind;
  width = r.width;
  target = target;
  offset = offset;
  reserved = 0;
}

-- those of offsets, from this byte on
abbrev pub offset_rows : Relocated → ℕ → ℕ → List ℕ → List RelocationRow
offset_rows r target place [] = []
offset_rows r target place (offset ∷ rest) = relocation_row r target place offset ∷ offset_rows r target (place + 4) rest

-- those of groups, from this byte on: a group's offsets stand after their number and the target
abbrev pub group_rows : Relocated → ℕ → List RelocGroup → List RelocationRow
group_rows r place [] = []
group_rows r place (g ∷ rest) = offset_rows r g.target (place + 8) g.offsets ++ group_rows r (place + 4 * length (group_text g)) rest

-- those of a block, whose groups stand after its word
abbrev pub body_rows : ℕ → ℕ → ℕ → ℕ → BlockBody → List RelocationRow
body_rows unit hunk place word (Reloc groups) = group_rows (relocated unit hunk word) (place + 4) groups
body_rows unit hunk place word body = []

abbrev pub block_rows : StandingBlock → List RelocationRow
block_rows s = body_rows s.unit s.hunk s.block.place s.block.value.word s.block.value.body

-- those of all relocation blocks, in file order
abbrev pub relocations_in : HunkFile → List RelocationRow
relocations_in = rows_in block_rows
