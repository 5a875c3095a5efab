-- How much room rows need at most for what they spell.
use Rattle.std.proofs.Common.{◌≡◌, ◌≢◌, ℕ, ◌+◌, ◌*◌, ◌≤◌, List, [], ◌∷◌, ◌++◌, length, length-append, map, take, drop, sym, ap, ◌∙◌, arith, Option, Some, None}
use Rattle.std.specs.Prelude.{Result, Err}
use Rattle.std.specs.List.{flat_map, sum_by}
use Rattle.std.proofs.lemmas.List.{length-take}
use Rattle.std.proofs.lemmas.List.Sums.{sum_by-cons}
use Rattle.hunk_words.proofs.LongLaws.{length-bytes_of, length-longs}
use Rattle.hunk_grammar.specs.declared.ext_shape.ExtShape.{ExtShape}
use Rattle.hunk_grammar.specs.declared.ext_shape.ExtShape.TheVariants.{Definition, References, Common}
use Rattle.hunk_grammar.specs.ExtKinds.{ext_shape}
use Rattle.hunk_blocks.specs.Entries.{shaped_text}
use Rattle.hunk_blocks.specs.Parts.{block_text, ext_text, group_text, symbol_text, text_of}
use Rattle.hunk_blocks.specs.Values.{BlockBody, BlockValue, ExtEntry, RelocGroup, SymbolEntry, Reloc, Ext, Symbol, ext_type}
use Rattle.hunk_blocks.proofs.PartTexts.{body_text_is, ext_text_is, group_text_is, symbol_text_is}
use Rattle.hunk_files.specs.HunkFile.{file_bytes}
use Rattle.hunk_files.specs.Hunks.{block_texts}
use Rattle.hunk_files.specs.LoadFile.{LoadFileValue, TableEntry}
use Rattle.hunk_files.specs.LoadText.{table, text}
use Rattle.hunk_files.specs.ObjectFile.{UnitValue, object_text, unit_header, unit_text}
use Rattle.hunk_files.specs.Tables.{entry_text, header_text, hunk_texts}
use Rattle.hunk_files.specs.declared.hunk_file.HunkFile.{HunkFile}
use Rattle.hunk_files.specs.declared.hunk_file.HunkFile.TheVariants as files
use Rattle.hunk_files.proofs.cuts.TableReading.{header_size, text_is}
use Rattle.hunk_parts.specs.Builds.{Builds, IsBuilt, IsRefused, LacksRoom}
use Rattle.hunk_parts.specs.declared.row_fault.BuiltSize.{BuiltSize}
use Rattle.hunk_parts.specs.declared.row_fault.NotBuilt.{NotBuilt}
use Rattle.hunk_parts.specs.declared.row_fault.NotBuilt.TheVariants.{NoRoom}
use Rattle.hunk_parts.specs.Parts.{AreParts, FilePart, block_file_parts, hunk_file_parts, of_entry, of_group, of_symbol, parts_of, unit_file_parts}
use Rattle.hunk_parts.specs.RowFields.{pointed_bytes}
use Rattle.hunk_parts.specs.RowsText.{row_part}
use Rattle.hunk_parts.specs.declared.part_row.PartRow.{PartRow}
use Rattle.hunk_parts.proofs.spelled.SeenLongs.{parts_seen}

-- the longwords of parts, and three more for each
weight : List FilePart → ℕ
weight [] = 0
weight (q ∷ qs) = 3 + length q.content + length q.offsets + weight qs

weight-append : (qs rs : List FilePart) → weight (qs ++ rs) ≡ weight qs + weight rs
unfolding weight
weight-append [] rs = omega arith
weight-append (q ∷ qs) rs = omega (arith, weight-append qs rs)

-- values whose texts are no longer than their parts
module _ {A : Type 0} (parts : A → List FilePart) (text : A → List ℕ) where
  abbrev Holds : Type 0
  Holds = (x : A) → length (text x) ≤ weight (parts x)

  each_holds : Holds → (xs : List A) → length (flat_map text xs) ≤ weight (flat_map parts xs)
  unfolding weight
  each_holds one [] = omega arith
  each_holds one (x ∷ xs) = omega (arith, one x, each_holds one xs, length-append (text x) (flat_map text xs), weight-append (parts x) (flat_map parts xs))

-- one part for each
module _ {A : Type 0} (of : A → FilePart) (text : A → List ℕ) where
  ones_hold : ((x : A) → length (text x) ≤ 3 + length ((of x).content) + length ((of x).offsets)) → (xs : List A) → length (flat_map text xs) ≤ weight (map of xs)
  unfolding weight
  ones_hold one [] = omega arith
  ones_hold one (x ∷ xs) = omega (arith, one x, ones_hold one xs, length-append (text x) (flat_map text xs))

-- ---- items

group_holds : (g : RelocGroup) → length (group_text g) ≤ 3 + 0 + length g.offsets
group_holds g = omega (arith, ap (λ (ws : List ℕ). length ws) (group_text_is g))

symbol_holds : (s : SymbolEntry) → length (symbol_text s) ≤ 3 + length s.name + 0
symbol_holds s = omega (arith, ap (λ (ws : List ℕ). length ws) (symbol_text_is s), length-append s.name (s.value ∷ []))

shape_holds : (o : Option ExtShape) (value : ℕ) (offsets : List ℕ) → length (shaped_text o (value, offsets)) ≤ 2 + length offsets
shape_holds (Some Definition) value offsets = omega arith
shape_holds (Some References) value offsets = omega arith
shape_holds (Some Common) value offsets = omega arith
shape_holds None value offsets = omega arith

entry_holds : (e : ExtEntry) → length (ext_text e) ≤ 3 + length e.name + length e.offsets
entry_holds e =
    let shape = shaped_text (ext_shape (ext_type e)) (e.value, e.offsets) in
    omega (arith, ap (λ (ws : List ℕ). length ws) (ext_text_is e), length-append e.name shape, shape_holds (ext_shape (ext_type e)) e.value e.offsets)

-- ---- blocks

body_holds : (word : ℕ) (body : BlockBody) → 1 + length (text_of body) ≤ weight (block_file_parts (record { word = word; body = body }))
unfolding weight
body_holds word (Reloc groups) = omega (arith, ones_hold of_group group_text group_holds groups, length-append (flat_map group_text groups) (0 ∷ []))
body_holds word (Symbol entries) = omega (arith, ones_hold of_symbol symbol_text symbol_holds entries, length-append (flat_map symbol_text entries) (0 ∷ []))
body_holds word (Ext entries) = omega (arith, ones_hold of_entry ext_text entry_holds entries, length-append (flat_map ext_text entries) (0 ∷ []))
body_holds word _ = omega arith

block_holds : (b : BlockValue) → length (block_text b) ≤ weight (block_file_parts b)
block_holds b = omega (arith, body_holds b.word b.body, ap (λ (ws : List ℕ). length ws) (body_text_is b.body))

blocks_hold : (bs : List BlockValue) → length (block_texts bs) ≤ weight (flat_map block_file_parts bs)
blocks_hold = each_holds block_file_parts block_text block_holds

-- ---- hunks and units

entry_text_holds : (e : TableEntry) → length (entry_text e) ≤ 2
entry_text_holds e = grind arith

hunks_hold : (hs : LoadFileValue) → length (flat_map entry_text (table hs)) + length (hunk_texts hs) ≤ weight (flat_map hunk_file_parts hs)
unfolding weight
hunks_hold [] = omega arith
hunks_hold (h ∷ hs) = omega (
  arith,
  blocks_hold h.blocks,
  hunks_hold hs,
  entry_text_holds h.entry,
  length-append (block_texts h.blocks) (hunk_texts hs),
  length-append (entry_text h.entry) (flat_map entry_text (table hs)),
  weight-append (flat_map block_file_parts h.blocks) (flat_map hunk_file_parts hs),
)

unit_holds : (u : UnitValue) → length (unit_text u) ≤ weight (unit_file_parts u)
unfolding weight
unit_holds u = omega (arith, each_holds (flat_map block_file_parts) block_texts blocks_hold u.hunks, length-append (unit_header u.name) (flat_map block_texts u.hunks))

file_holds : (file : HunkFile) → length (file_bytes file) ≤ 20 + 4 * weight (parts_of file)
unfolding parts_of
file_holds (files.Load v rest) = omega (arith, hunks_hold v, header_size v, ap (λ (ws : List ℕ). length ws) (text_is v), length-append (header_text v) (hunk_texts v), length-bytes_of (text v))
file_holds (files.Object o) = omega (arith, each_holds unit_file_parts unit_text unit_holds o, length-bytes_of (object_text o))

-- ---- rows

row_weight : (bytes : List ℕ) (rows : List PartRow) → 4 * weight (map (row_part bytes) rows) ≤ 16 * length rows + sum_by pointed_bytes rows
unfolding weight
row_weight bytes [] = omega arith
row_weight bytes (r ∷ rows) =
    let content = take r.content_bytes (drop r.content bytes) in
    let offsets = take (4 * r.offset_count) (drop r.offsets bytes) in
    omega (
      arith,
      row_weight bytes rows,
      sum_by-cons pointed_bytes r rows,
      length-longs (content ++ 0 ∷ 0 ∷ 0 ∷ []),
      length-append content (0 ∷ 0 ∷ 0 ∷ []),
      length-longs offsets,
      length-take r.content_bytes (drop r.content bytes),
      length-take (4 * r.offset_count) (drop r.offsets bytes),
    )

-- 20 bytes, 16 for each row, and as many as they point at hold the file.
pub room_needed : (bytes : List ℕ) (rows : List PartRow) (file : HunkFile) → AreParts bytes rows file → length (file_bytes file) ≤ 20 + 16 * length rows + sum_by pointed_bytes rows
room_needed bytes rows file are = omega (arith, file_holds file, row_weight bytes rows, ap weight (parts_seen bytes rows (parts_of file) are.parts))

pub room_for_built : (bytes : List ℕ) (rows : List PartRow) (old new : List ℕ) (built : Result BuiltSize NotBuilt) → Builds bytes rows old new built → 20 + 16 * length rows + sum_by pointed_bytes rows ≤ length old → (size : BuiltSize) → built ≢ Err (NoRoom size)
room_for_built bytes rows old new built (IsBuilt file are fits text is) room size e = let clash = sym is ∙ e in cc
room_for_built bytes rows old new built (LacksRoom file are lacks kept is) room size e = omega (arith, room, lacks, room_needed bytes rows file are)
room_for_built bytes rows old new built (IsRefused f fault none kept is) room size e = let clash = sym is ∙ e in cc
