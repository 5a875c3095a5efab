-- The longwords that parts spell.
use Rattle.std.specs.Prelude.{ℕ, ◌+◌, ◌*◌, ◌==◌, ◌||◌, ◌&&◌, nat_lt, Bool, if◌then◌else◌, List, [], ◌∷◌, ◌++◌, length, map, take, drop, Option, Some, None, is_some}
use Rattle.std.specs.List.{filter}
use Rattle.hunk_words.specs.Bits.{kind}
use Rattle.hunk_words.specs.Carriers.{saturated}
use Rattle.hunk_words.specs.Limits.{name_limit}
use Rattle.hunk_words.specs.declared.block_word.Kind.{Kind}
use Rattle.hunk_words.specs.declared.block_word.Kind.TheVariants as kinds
use Rattle.hunk_grammar.specs.ExtKinds.{ext_shape}
use Rattle.hunk_grammar.specs.declared.ext_shape.ExtShape.{ExtShape}
use Rattle.hunk_grammar.specs.declared.ext_shape.ExtShape.TheVariants.{Definition, References, Common}
use Rattle.hunk_blocks.specs.Faults.{words}
use Rattle.hunk_files.specs.LoadFile.{TableEntry}
use Rattle.hunk_files.specs.LoadText.{header_labelled}
use Rattle.hunk_files.specs.ObjectFile.{unit_header}
use Rattle.hunk_parts.specs.Parts.{FilePart, block_part, entry_part, group_part, hunk_part, part_of_bytes, symbol_part, unit_part}
use Rattle.hunk_parts.specs.PartFaults.{first_place, is_hunk_row, items_of, list_after}
use Rattle.hunk_parts.specs.declared.part_row.PartRow.{PartRow}
use Rattle.hunk_parts.specs.declared.row_fault.BuiltSize.{BuiltSize}
use Rattle.hunk_parts.specs.declared.seen_part.SeenPart.{SeenPart}

-- ---- the longwords of a part

-- the word with the top byte of a symbol or an entry, and its name
abbrev pub named_text : FilePart → List ℕ
named_text q = (q.word * name_limit + length q.content) ∷ q.content

-- what follows the name of an entry
abbrev pub shape_text : Option ExtShape → FilePart → List ℕ
shape_text (Some Definition) q = q.value ∷ []
shape_text (Some References) q = length q.offsets ∷ q.offsets
shape_text (Some Common) q = q.value ∷ length q.offsets ∷ q.offsets
shape_text None q = []

-- what follows the word of a block, but for its items
abbrev pub payload_text : Kind → FilePart → List ℕ
payload_text kinds.End q = []
payload_text k q = if nat_lt 0 (items_of k) then [] else (q.value + length q.content) ∷ q.content

-- in the body of the file
abbrev pub part_text : FilePart → List ℕ
part_text q =
    if q.what == unit_part then unit_header q.content
    else if q.what == block_part then q.word ∷ payload_text (kind q.word) q
    else if q.what == group_part then length q.offsets ∷ q.word ∷ q.offsets
    else if q.what == symbol_part then named_text q ++ q.value ∷ []
    else if q.what == entry_part then named_text q ++ shape_text (ext_shape q.word) q
    else []

-- the zero that ends the open list before such a part
abbrev pub closing : Option Kind → ℕ → List ℕ
closing list what = if is_some list && (what == unit_part || what == block_part) then 0 ∷ [] else []

-- the body, of the parts after which this list is open
abbrev pub text_from : Option Kind → List FilePart → List ℕ
text_from list [] = closing list block_part
text_from list (q ∷ qs) = closing list q.what ++ part_text q ++ text_from (list_after list q.what q.word) qs

-- ---- the header of a load file

abbrev pub is_hunk : FilePart → Bool
is_hunk q = q.what == hunk_part

abbrev pub table_entry : ℕ → ℕ → TableEntry
table_entry word extra = record { word = word; extra = extra }

abbrev pub hunk_entry : FilePart → TableEntry
hunk_entry q = table_entry q.word q.value

abbrev pub header_of : List FilePart → List ℕ
header_of [] = []
header_of (q ∷ qs) = if is_hunk q then words (header_labelled (map hunk_entry (filter is_hunk (q ∷ qs)))) else []

-- ---- the file

abbrev pub parts_text : List FilePart → List ℕ
parts_text qs = header_of qs ++ text_from None qs

-- the part that a row is with these bytes
abbrev pub part_seen : SeenPart → FilePart
part_seen s = part_of_bytes s.what s.word s.value s.content.now s.offsets.now

-- the part that a row is, where its bytes are there
abbrev pub row_part : List ℕ → PartRow → FilePart
row_part bytes r =
    part_of_bytes r.what r.word r.value (take r.content_bytes (drop r.content bytes)) (take (4 * r.offset_count) (drop r.offsets bytes))

-- what the table has for rows
abbrev pub row_entry : PartRow → TableEntry
row_entry r = table_entry r.word r.value

abbrev pub rows_table : List PartRow → List TableEntry
rows_table rows = map row_entry (filter is_hunk_row rows)

-- what rows spell that are not refused
abbrev pub rows_text : List ℕ → List PartRow → List ℕ
rows_text bytes rows = parts_text (map (row_part bytes) rows)

-- how large that is
abbrev pub rows_size : List ℕ → List PartRow → BuiltSize
rows_size bytes rows = record { hunks = (first_place rows).hunks; bytes = saturated (4 * length (rows_text bytes rows)) }
