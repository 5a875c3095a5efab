-- What a reader of load files says was read: of the files that go on from there, and in longwords.
use Rattle.std.specs.Prelude.{◌≡◌, ℕ, suc, ◌+◌, ◌-◌, List, [], ◌∷◌, ◌++◌, length, ⊤}
use Rattle.std.specs.List.{flat_map}
use Rattle.hunk_words.specs.Bits.{header_word, size_word}
use Rattle.hunk_blocks.specs.BlockSteps.{Filling, Counted, SizedCode, SizedData, Inside, InPayload, AtGroup, AtTarget, InOffsets, AtEntry, InName, AtValue}
use Rattle.hunk_blocks.specs.Parts.{group_text, symbol_text}
use Rattle.hunk_blocks.specs.Values.{BlockBody, BlockValue}
use Rattle.hunk_files.specs.Image.{block_content, block_relocations}
use Rattle.hunk_files.specs.LoadFile.{TableEntry, LoadFileValue}
use Rattle.hunk_files.specs.LoadText.{table}
use Rattle.hunk_files.specs.FileSteps.{block, hunk, HunkSoFar, Progress, AtFirst, AtResident, AtTableSize, AtFirstHunk, AtLastHunk, AtSizeWord, AtAttributes, AtBlock, InBody}
use Rattle.hunk_files.specs.Hunks.{block_texts}
use Rattle.hunk_files.specs.OpenSegment.{bytes_in, pairs_in}
use Rattle.hunk_files.specs.ReaderPosition.{open_table}
use Rattle.hunk_files.specs.Tables.{entry_text, hunk_texts}

-- The table of the file begins with these entries, and has so many more.
pub record HasEntries (v : LoadFileValue) (done : List TableEntry) (owed : ℕ) : Type 0 where
  pub more : List TableEntry
  pub table_is : table v ≡ done ++ more
  pub owed_are : length more ≡ owed

-- The file has these whole hunks, then one of this entry that begins with these blocks, and hunks of these entries.
pub record HasOpenHunk (v : LoadFileValue) (o : HunkSoFar) : Type 0 where
  pub blocks : List BlockValue
  pub ahead : LoadFileValue
  pub hunks_are : v ≡ o.finished ++ hunk o.entry (o.blocks ++ blocks) ∷ ahead
  pub table_is : table ahead ≡ o.ahead

-- After these blocks it has one of this word, whose content and relocations begin with those that were read of it.
pub record HasOpenBlock (v : LoadFileValue) (o : HunkSoFar) (word : ℕ) (x : Inside) : Type 0 where
  pub body : BlockBody
  pub blocks : List BlockValue
  pub ahead : LoadFileValue
  pub bytes : List ℕ
  pub pairs : List (ℕ × ℕ)
  pub hunks_are : v ≡ o.finished ++ hunk o.entry (o.blocks ++ block word body ∷ blocks) ∷ ahead
  pub table_is : table ahead ≡ o.ahead
  pub content_is : block_content body ≡ bytes_in x ++ bytes
  pub relocations_are : block_relocations body ≡ pairs_in x ++ pairs

-- What was read is of this file.
abbrev pub IsOf : LoadFileValue → Progress → Type 0
IsOf v (AtFirstHunk hunks) = hunks ≡ length v
IsOf v (AtLastHunk hunks) = hunks ≡ length v
IsOf v (AtSizeWord hunks done owed) = HasEntries v done (suc owed)
IsOf v (AtAttributes hunks done word owed) = HasEntries v done (suc owed)
IsOf v (AtBlock o) = HasOpenHunk v o
IsOf v (InBody o word x) = HasOpenBlock v o word x
IsOf v p = ⊤

-- ---- the longwords that it says were read

abbrev pub first_word : Filling → ℕ → ℕ
first_word (Counted c) count = count
first_word (SizedCode top) count = size_word top count
first_word (SizedData top) count = size_word top count

-- of an open block, after its word; a load file has no EXT
abbrev pub block_words : Inside → List ℕ
block_words (InPayload f done owed) = first_word f (length done + suc owed) ∷ done
block_words (AtGroup groups) = flat_map group_text groups
block_words (AtTarget groups owed) = flat_map group_text groups ++ suc owed ∷ []
block_words (InOffsets groups target done owed) = flat_map group_text groups ++ (length done + suc owed) ∷ target ∷ done
block_words (AtEntry entries) = flat_map symbol_text entries
block_words (InName entries word done owed) = flat_map symbol_text entries ++ word ∷ done
block_words (AtValue entries word name) = flat_map symbol_text entries ++ word ∷ name
block_words x = []

abbrev pub table_words : ℕ → List TableEntry → List ℕ
table_words hunks done = header_word ∷ 0 ∷ hunks ∷ 0 ∷ (hunks - 1) ∷ flat_map entry_text done

-- the header, whole hunks, and whole blocks of the next
abbrev pub hunk_words : HunkSoFar → List ℕ
hunk_words o = table_words o.hunks (open_table o) ++ (hunk_texts o.finished ++ block_texts o.blocks)

abbrev pub words_of : Progress → List ℕ
words_of AtFirst = []
words_of AtResident = header_word ∷ []
words_of AtTableSize = header_word ∷ 0 ∷ []
words_of (AtFirstHunk hunks) = header_word ∷ 0 ∷ hunks ∷ []
words_of (AtLastHunk hunks) = header_word ∷ 0 ∷ hunks ∷ 0 ∷ []
words_of (AtSizeWord hunks done owed) = table_words hunks done
words_of (AtAttributes hunks done word owed) = table_words hunks done ++ word ∷ []
words_of (AtBlock o) = hunk_words o
words_of (InBody o word x) = hunk_words o ++ word ∷ block_words x
