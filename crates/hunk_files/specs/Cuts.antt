-- What the longwords of a file spell, by the places of its parts: the way back from its text.
use Rattle.std.specs.Prelude.{ℕ, zero, suc, List, [], ◌∷◌, length, drop, slice_index, if◌then◌else◌}
use Rattle.hunk_words.specs.Bits.{entry_longs, has_both_bits}
use Rattle.hunk_blocks.specs.Values.{BlockValue}
use Rattle.hunk_blocks.specs.Cuts.{Cut, cut_map, block_cut}
use Rattle.hunk_grammar.specs.Standings.{is_ending}
use Rattle.hunk_files.specs.LoadFile.{TableEntry, LoadFileValue, standing}

-- ---- hunks of files of both kinds

-- blocks up to END, this many at most
unfoldable pub blocks_cut : ℕ → List ℕ → Cut (List BlockValue)
blocks_cut zero words = record { value = []; rest = words }
blocks_cut (suc most) words =
    let block = block_cut words in
    if is_ending (standing block.value.body) then cut_map (λ b. b ∷ []) block
    else cut_map (λ blocks. block.value ∷ blocks) (blocks_cut most block.rest)

-- all blocks of a hunk
abbrev pub hunk_cut : List ℕ → Cut (List BlockValue)
hunk_cut words = blocks_cut (length words) words

-- ---- load files

-- an entry of the table: a size word, and the memory attributes where both of its memory bits are set
abbrev pub row_cut : List ℕ → Cut TableEntry
row_cut words =
    let word = slice_index words 0 in
    record {
      value = record { word = word; extra = if has_both_bits word then slice_index words 1 else 0 };
      rest = drop (entry_longs word) words;
    }

-- this many of them
unfoldable pub table_cut : ℕ → List ℕ → Cut (List TableEntry)
table_cut zero words = record { value = []; rest = words }
table_cut (suc hunks) words =
    let row = row_cut words in
    cut_map (λ rows. row.value ∷ rows) (table_cut hunks row.rest)

-- the hunks of a table
unfoldable pub load_hunks_cut : List TableEntry → List ℕ → Cut LoadFileValue
load_hunks_cut [] words = record { value = []; rest = words }
load_hunks_cut (entry ∷ table) words =
    let blocks = hunk_cut words in
    cut_map (λ hunks. record { entry = entry; blocks = blocks.value } ∷ hunks) (load_hunks_cut table blocks.rest)

-- a load file: longword 2 is the number of its hunks, its table begins at longword 5
unfoldable pub load_cut : List ℕ → Cut LoadFileValue
load_cut words =
    let table = table_cut (slice_index words 2) (drop 5 words) in
    load_hunks_cut table.value table.rest
