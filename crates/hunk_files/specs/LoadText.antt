-- The text of a load file: its longwords, each with its role.
use Rattle.std.specs.Prelude.{ℕ, ◌-◌, Bool, false, ◌||◌, List, [], ◌∷◌, ◌++◌, length, map, if◌then◌else◌}
use Rattle.std.specs.List.{flat_map}
use Rattle.hunk_words.specs.Bits.{has_both_bits, header_word}
use Rattle.hunk_blocks.specs.Values.{BlockValue}
use Rattle.hunk_blocks.specs.Parts.{block_parts}
use Rattle.hunk_blocks.specs.Faults.{words}
use Rattle.hunk_files.specs.LoadFile.{TableEntry, HunkValue, LoadFileValue, declared_longs, standing}
use Rattle.hunk_grammar.specs.Standings.{is_content}
use Rattle.hunk_grammar.specs.Roles.{Place, Role, FirstLong, ResidentName, TableSize, FirstHunk, LastHunk, SizeWord, Attributes, InBlock}

abbrev pub entry_labelled : TableEntry → List (Role × ℕ)
entry_labelled e = (SizeWord, e.word) ∷ (if has_both_bits e.word then (Attributes, e.extra) ∷ [] else [])

-- The header of a file with this table.
abbrev pub header_labelled : List TableEntry → List (Role × ℕ)
header_labelled table =
    (FirstLong, header_word) ∷ (ResidentName, 0) ∷ (TableSize, length table)
    ∷ (FirstHunk, 0) ∷ (LastHunk (length table), length table - 1)
    ∷ flat_map entry_labelled table

abbrev pub block_labelled : Place → BlockValue → List (Role × ℕ)
block_labelled p b = map (λ x. (InBlock p x.0, x.1)) (block_parts b)

-- The blocks of a hunk; the flag says whether its content block came before them.
abbrev pub blocks_labelled : ℕ → ℕ → Bool → List BlockValue → List (Role × ℕ)
blocks_labelled hunks longs has_content [] = []
blocks_labelled hunks longs has_content (b ∷ rest) =
    block_labelled (record { hunks = hunks; longs = longs; has_content = has_content }) b
    ++ blocks_labelled hunks longs (has_content || is_content (standing b.body)) rest

abbrev pub hunk_labelled : ℕ → HunkValue → List (Role × ℕ)
hunk_labelled hunks h = blocks_labelled hunks (declared_longs h) false h.blocks

-- What the table of a file with these hunks has.
abbrev pub table : LoadFileValue → List TableEntry
table hunks = map (λ h. h.entry) hunks

-- The longwords of a load file, each with its role: the header, then the blocks of each hunk.
unfoldable pub labelled : LoadFileValue → List (Role × ℕ)
labelled v = header_labelled (table v) ++ flat_map (hunk_labelled (length v)) v

-- The longwords of a load file.
abbrev pub text : LoadFileValue → List ℕ
text v = words (labelled v)
