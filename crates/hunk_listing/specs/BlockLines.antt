-- The lines of a block, one equation a form of line.
use Rattle.std.specs.Prelude.{ℕ, ◌*◌, ◌%◌, ◌^◌, List, [], ◌++◌, length, codes, decimal, Option, Some, None}
use Rattle.std.specs.List.{flat_map}
use Rattle.hunk_words.specs.Bits.{kind, size_longs}
use Rattle.hunk_grammar.specs.declared.ext_kind.ExtKind.{ExtKind}
use Rattle.hunk_grammar.specs.declared.ext_shape.ExtShape.{ExtShape}
use Rattle.hunk_grammar.specs.declared.ext_shape.ExtShape.TheVariants.{Definition, Common, References}
use Rattle.hunk_grammar.specs.ExtKinds.{ext_kind, ext_name, shape_of_kind}
use Rattle.hunk_blocks.specs.Values.{RelocGroup, ExtEntry, SymbolEntry, BlockBody, Name, Code, Data, Bss, Reloc, Ext, Symbol, Debug, Advisory, End, BlockValue, ext_type, offset_count}
use Rattle.hunk_listing.specs.Printed.{hexadecimal, name_text}
use Rattle.hunk_listing.specs.BlockNames.{block_flags, kind_name, memory_flags}

-- two spaces, the block's name and its flags
unfoldable pub head : ℕ → List ℕ
head word = codes "  " ++ kind_name (kind word) ++ block_flags word

-- `  NAME TEXT`
unfoldable pub name_line : ℕ → List ℕ → List ℕ
name_line word name = head word ++ codes " " ++ name_text name ++ codes "\n"

-- `  CODE D bytes`, and DATA, BSS and DEBUG
abbrev pub size_line : ℕ → ℕ → List ℕ
size_line word size = head word ++ codes " " ++ decimal size ++ codes " bytes\n"

-- `  RELOC32 D`, `  SYMBOL D` and `  EXT D`, before a line or more for each of this many
abbrev pub count_line : ℕ → ℕ → List ℕ
count_line word count = head word ++ codes " " ++ decimal count ++ codes "\n"

-- `  END`
unfoldable pub end_line : ℕ → List ℕ
end_line word = head word ++ codes "\n"

-- `  ADVISORY D D bytes`: its number and its size
unfoldable pub advisory_line : ℕ → ℕ → List ℕ
advisory_line word size =
    codes "  ADVISORY " ++ decimal (word % 2 ^ 29) ++ codes " " ++ decimal size ++ codes " bytes" ++ memory_flags word ++ codes "\n"

-- `    D X`: the target hunk and the offset
unfoldable pub relocation_line : ℕ → ℕ → List ℕ
relocation_line target offset = codes "    " ++ decimal target ++ codes " " ++ hexadecimal offset ++ codes "\n"

abbrev pub group_lines : RelocGroup → List ℕ
group_lines group = flat_map (relocation_line group.target) group.offsets

-- `    X TEXT`: the value and the name
unfoldable pub symbol_line : SymbolEntry → List ℕ
symbol_line symbol = codes "    " ++ hexadecimal symbol.value ++ codes " " ++ name_text symbol.name ++ codes "\n"

-- `    DEF X TEXT`: the value and the name
unfoldable pub definition_line : ExtKind → ExtEntry → List ℕ
definition_line kind entry =
    codes "    " ++ ext_name kind ++ codes " " ++ hexadecimal entry.value ++ codes " " ++ name_text entry.name ++ codes "\n"

-- `    REF32 D TEXT`: the number of references and the name
unfoldable pub reference_line : ExtKind → ExtEntry → List ℕ
reference_line kind entry =
    codes "    " ++ ext_name kind ++ codes " " ++ decimal (length entry.offsets) ++ codes " " ++ name_text entry.name ++ codes "\n"

-- `    COMMON D D TEXT`: the size, the number of references and the name
unfoldable pub common_line : ExtKind → ExtEntry → List ℕ
common_line kind entry =
    codes "    " ++ ext_name kind ++ codes " " ++ decimal entry.value ++ codes " " ++ decimal (length entry.offsets)
    ++ codes " " ++ name_text entry.name ++ codes "\n"

-- the line of an entry of this type
abbrev pub line_by : ExtShape → ExtKind → ExtEntry → List ℕ
line_by Definition kind entry = definition_line kind entry
line_by Common kind entry = common_line kind entry
line_by References kind entry = reference_line kind entry

abbrev pub entry_line : ExtKind → ExtEntry → List ℕ
entry_line kind entry = line_by (shape_of_kind kind) kind entry

-- `      X`: where a reference stands
unfoldable pub offset_line : ℕ → List ℕ
offset_line offset = codes "      " ++ hexadecimal offset ++ codes "\n"

-- an entry of a type that is not accepted, which no block has, has no lines
abbrev pub kind_lines : Option ExtKind → ExtEntry → List ℕ
kind_lines None entry = []
kind_lines (Some kind) entry = entry_line kind entry ++ flat_map offset_line entry.offsets

abbrev pub entry_lines : ExtEntry → List ℕ
entry_lines entry = kind_lines (ext_kind (ext_type entry)) entry

abbrev pub body_lines : ℕ → BlockBody → List ℕ
body_lines word (Name words) = name_line word words
body_lines word (Code top words) = size_line word (4 * length words)
body_lines word (Data top words) = size_line word (4 * length words)
body_lines word (Bss size) = size_line word (4 * size_longs size)
body_lines word (Reloc groups) = count_line word (offset_count groups) ++ flat_map group_lines groups
body_lines word (Ext entries) = count_line word (length entries) ++ flat_map entry_lines entries
body_lines word (Symbol entries) = count_line word (length entries) ++ flat_map symbol_line entries
body_lines word (Debug words) = size_line word (4 * length words)
body_lines word (Advisory words) = advisory_line word (4 * length words)
body_lines word End = end_line word

abbrev pub block_lines : BlockValue → List ℕ
block_lines block = body_lines block.word block.body
