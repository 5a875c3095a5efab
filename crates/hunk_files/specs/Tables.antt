-- The rows and hunks of a load file.
use Rattle.std.specs.Prelude.{ℕ, List}
use Rattle.std.specs.List.{flat_map}
use Rattle.hunk_words.specs.declared.size_word.SizeWord.{SizeWord}
use Rattle.hunk_blocks.specs.Faults.{words}
use Rattle.hunk_files.specs.declared.row.Row.{Row}
use Rattle.hunk_files.specs.declared.load.hunk.LoadHunk.{LoadHunk}
use Rattle.hunk_files.specs.LoadFile.{TableEntry, HunkValue, LoadFileValue}
use Rattle.hunk_files.specs.LoadText.{entry_labelled, header_labelled, table}
use Rattle.hunk_files.specs.Hunks.{block_texts}

-- what the header declares of the hunk
abbrev pub row_entry : Row → TableEntry
row_entry r = record { word = r.word; extra = r.extra }

abbrev pub size_entry : SizeWord → TableEntry
size_entry s = record { word = s.word; extra = s.extra }

abbrev pub hunk_of : LoadHunk → HunkValue
hunk_of h = record { entry = row_entry h.row; blocks = h.blocks.items }

abbrev pub hunk_texts : LoadFileValue → List ℕ
hunk_texts v = flat_map (λ h. block_texts h.blocks) v

-- what the header has for a hunk
abbrev pub entry_text : TableEntry → List ℕ
entry_text e = words (entry_labelled e)

abbrev pub header_text : LoadFileValue → List ℕ
header_text v = words (header_labelled (table v))

-- ---- the text of hunks in memory

abbrev pub row_words : Row → List ℕ
row_words r = entry_text (row_entry r)

abbrev pub row_texts : List LoadHunk → List ℕ
row_texts hunks = flat_map (λ h. row_words h.row) hunks
