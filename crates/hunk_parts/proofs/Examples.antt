-- Worked examples, computed.
use Rattle.std.specs.Prelude.{◌≡◌, ℕ, [], ◌∷◌, map, Some, refl}
use Rattle.hunk_words.specs.Longs.{bytes_of}
use Rattle.hunk_grammar.specs.ExtKinds.{ext_kind}
use Rattle.hunk_blocks.specs.Values.{BlockBody, BlockValue, Code, Bss, Reloc, Ext, Symbol, End}
use Rattle.hunk_files.specs.{HunkFile.file_bytes, LoadText.labelled}
use Rattle.hunk_files.specs.declared.hunk_file.HunkFile.{HunkFile}
use Rattle.hunk_files.specs.declared.hunk_file.HunkFile.TheVariants as files
use Rattle.hunk_parts.specs.{PartRows.part_rows, Parts.{part, parts_of, seen}}
use Rattle.hunk_parts.specs.declared.part_row.PartRow.{PartRow}

block : ℕ → BlockBody → BlockValue
block word body = record { word = word; body = body }

row : ℕ → ℕ → ℕ → ℕ → ℕ → ℕ → ℕ → PartRow
row what word value content content_bytes offsets offset_count = record {
  what = what;
  word = word;
  value = value;
  reserved = 0;
  content = content;
  content_bytes = content_bytes;
  offsets = offsets;
  offset_count = offset_count;
}

-- ---- A hunk of two longwords, whose memory attributes name: CODE with bits in both of its words, two groups with one target, and a
-- symbol.

program : HunkFile
unfolding block
program =
    files.Load (record {
      entry = record { word = 0xC0000002; extra = 4 };
      blocks =
          block 0x400003E9 (Code 2 (0x4EF90000 ∷ 4 ∷ []))
          ∷ block 0x3EC (Reloc (record { target = 0; offsets = 2 ∷ [] } ∷ record { target = 0; offsets = 4 ∷ [] } ∷ []))
          ∷ block 0x3F0 (Symbol (record { word = 0x01000001; name = 0x61000000 ∷ []; value = 8 } ∷ []))
          ∷ block 0x3F2 End ∷ [];
    } ∷ []) 0

program_rows :
    part_rows program
    ≡ row 1 0xC0000002 4 0 0 0 0
    ∷ row 3 0x400003E9 0x80000000 36 8 0 0
    ∷ row 3 0x3EC 0 0 0 0 0
    ∷ row 4 0 0 0 0 56 1
    ∷ row 4 0 0 0 0 68 1
    ∷ row 3 0x3F0 0 0 0 0 0
    ∷ row 5 1 8 84 4 0 0
    ∷ row 3 0x3F2 0 0 0 0 0 ∷ []
unfolding program block row
program_rows = refl

program_parts :
    parts_of program
    ≡ part 1 0xC0000002 4 [] []
    ∷ part 3 0x400003E9 0x80000000 (0x4EF90000 ∷ 4 ∷ []) []
    ∷ part 3 0x3EC 0 [] []
    ∷ part 4 0 0 [] (2 ∷ [])
    ∷ part 4 0 0 [] (4 ∷ [])
    ∷ part 3 0x3F0 0 [] []
    ∷ part 5 1 8 (0x61000000 ∷ []) []
    ∷ part 3 0x3F2 0 [] [] ∷ []
unfolding program block parts_of
program_parts = refl

program_seen : map (seen (file_bytes program)) (part_rows program) ≡ map Some (parts_of program)
unfolding program block parts_of labelled bytes_of
program_seen = refl

-- ---- A unit with a hunk of BSS, a definition, which has no offsets, and a common block.

module_file : HunkFile
unfolding block
module_file =
    files.Object (record {
      name = 0x61000000 ∷ [];
      hunks =
          (block 0x3EB (Bss 0x40000001)
          ∷ block 0x3EF (Ext (
          record { word = 0x01000001; name = 0x62000000 ∷ []; value = 4; offsets = [] }
          ∷ record { word = 0x82000001; name = 0x63000000 ∷ []; value = 16; offsets = 0 ∷ [] } ∷ []))
          ∷ block 0x3F2 End ∷ []) ∷ [];
    } ∷ [])

module_rows :
    part_rows module_file
    ≡ row 2 0 0 8 4 0 0
    ∷ row 3 0x3EB 0x40000001 0 0 0 0
    ∷ row 3 0x3EF 0 0 0 0 0
    ∷ row 6 1 4 28 4 36 0
    ∷ row 6 130 16 40 4 52 1
    ∷ row 3 0x3F2 0 0 0 0 0 ∷ []
unfolding module_file block row ext_kind
module_rows = refl

module_seen : map (seen (file_bytes module_file)) (part_rows module_file) ≡ map Some (parts_of module_file)
unfolding module_file block parts_of bytes_of ext_kind
module_seen = refl
