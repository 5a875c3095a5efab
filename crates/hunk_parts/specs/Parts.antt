-- The parts of a file, and rows that spell one.
use Rattle.std.specs.Prelude.{◌≡◌, ℕ, ◌+◌, ◌*◌, ◌==◌, nat_lt, if◌then◌else◌, List, [], ◌∷◌, ◌++◌, length, map, take, drop, Option, Some, None, unwrap_or}
use Rattle.std.specs.List.{flat_map}
use Rattle.hunk_words.specs.Bits.{entry_type, size_word}
use Rattle.hunk_words.specs.Longs.{longs}
use Rattle.hunk_blocks.specs.Values.{BlockBody, BlockValue, RelocGroup, SymbolEntry, ExtEntry, Name, Code, Data, Bss, Reloc, Symbol, Ext, Debug, Advisory, ext_type}
use Rattle.hunk_files.specs.HunkFile.{IsFileOf, file_bytes}
use Rattle.hunk_files.specs.LoadFile.{HunkValue, TableEntry}
use Rattle.hunk_files.specs.ObjectFile.{UnitValue}
use Rattle.hunk_files.specs.declared.hunk_file.HunkFile.{HunkFile}
use Rattle.hunk_files.specs.declared.hunk_file.HunkFile.TheVariants as files
use Rattle.hunk_parts.specs.declared.part_row.PartRow.{PartRow}

-- ---- what a part is

-- a hunk of a load file begins
abbrev pub hunk_part : ℕ
hunk_part = 1

-- a unit of an object file begins
abbrev pub unit_part : ℕ
unit_part = 2

-- a block, END too
abbrev pub block_part : ℕ
block_part = 3

-- offsets with one target, in the relocation block before it
abbrev pub group_part : ℕ
group_part = 4

-- a symbol, in the SYMBOL block before it
abbrev pub symbol_part : ℕ
symbol_part = 5

-- an entry, in the EXT block before it
abbrev pub entry_part : ℕ
entry_part = 6

-- a part of a file, with its longwords in place of where they lie
pub record FilePart : Type 0 where
  pub what : ℕ
  pub word : ℕ
  pub value : ℕ
  pub content : List ℕ
  pub offsets : List ℕ

abbrev pub part : ℕ → ℕ → ℕ → List ℕ → List ℕ → FilePart
part what word value content offsets = record { what = what; word = word; value = value; content = content; offsets = offsets }

-- ---- the parts of a file

-- the longwords after a count; none where the body has no count
abbrev pub payload_of : BlockBody → Option (List ℕ)
payload_of (Name words) = Some words
payload_of (Code top words) = Some words
payload_of (Data top words) = Some words
payload_of (Debug words) = Some words
payload_of (Advisory words) = Some words
payload_of body = None

-- what the size word has beside the number of longwords that follow it
abbrev pub size_value : BlockBody → ℕ
size_value (Code top words) = size_word top 0
size_value (Data top words) = size_word top 0
size_value (Bss size) = size
size_value body = 0

-- the entry of the table
abbrev pub of_hunk : TableEntry → FilePart
of_hunk e = part hunk_part e.word e.extra [] []

-- its name
abbrev pub of_unit : List ℕ → FilePart
of_unit name = part unit_part 0 0 name []

abbrev pub of_block : BlockValue → FilePart
of_block b = part block_part b.word (size_value b.body) (unwrap_or (payload_of b.body) []) []

abbrev pub of_group : RelocGroup → FilePart
of_group g = part group_part g.target 0 [] g.offsets

abbrev pub of_symbol : SymbolEntry → FilePart
of_symbol s = part symbol_part (entry_type s.word) s.value s.name []

abbrev pub of_entry : ExtEntry → FilePart
of_entry e = part entry_part (ext_type e) e.value e.name e.offsets

-- the groups or entries of a list
abbrev pub item_parts : BlockBody → List FilePart
item_parts (Reloc groups) = map of_group groups
item_parts (Symbol entries) = map of_symbol entries
item_parts (Ext entries) = map of_entry entries
item_parts body = []

abbrev pub block_file_parts : BlockValue → List FilePart
block_file_parts b = of_block b ∷ item_parts b.body

abbrev pub hunk_file_parts : HunkValue → List FilePart
hunk_file_parts h = of_hunk h.entry ∷ flat_map block_file_parts h.blocks

abbrev pub unit_file_parts : UnitValue → List FilePart
unit_file_parts u = of_unit u.name ∷ flat_map (flat_map block_file_parts) u.hunks

-- The parts of a file, in file order, but each size word before the blocks of its hunk.
unfoldable pub parts_of : HunkFile → List FilePart
parts_of (files.Load hunks rest) = flat_map hunk_file_parts hunks
parts_of (files.Object units) = flat_map unit_file_parts units

-- ---- what rows spell

-- the bytes that a row points at, where they are there
abbrev pub run_at : List ℕ → ℕ → ℕ → Option (List ℕ)
run_at bytes place count =
    if count == 0 then Some [] else if nat_lt (length bytes) (place + count) then None else Some (take count (drop place bytes))

-- a part of these bytes: three zero bytes more make a longword of each begun one
abbrev pub part_of_bytes : ℕ → ℕ → ℕ → List ℕ → List ℕ → FilePart
part_of_bytes what word value content offsets =
    part what word value (longs (content ++ 0 ∷ 0 ∷ 0 ∷ [])) (longs offsets)

-- what a row is, where its bytes are there
abbrev pub seen_by : PartRow → Option (List ℕ) → Option (List ℕ) → Option FilePart
seen_by r (Some content) (Some offsets) = Some (part_of_bytes r.what r.word r.value content offsets)
seen_by r content offsets = None

abbrev pub seen : List ℕ → PartRow → Option FilePart
seen bytes r = seen_by r (run_at bytes r.content r.content_bytes) (run_at bytes r.offsets (4 * r.offset_count))

-- The rows are the parts of this file, which nothing follows.
pub record AreParts (bytes : List ℕ) (rows : List PartRow) (file : HunkFile) : Type 0 where
  pub whole : IsFileOf (file_bytes file) file
  pub parts : map (seen bytes) rows ≡ map Some (parts_of file)
