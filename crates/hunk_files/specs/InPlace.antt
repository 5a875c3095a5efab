-- Parts of a file that are read where they lie, one by one.
use Rattle.std.specs.Prelude.{◌≡◌, ℕ, ◌+◌, ◌*◌, ◌≤◌, Bool, List, [], ◌∷◌, ◌++◌, length, map, drop, Option, Some, None}
use Rattle.std.specs.List.{flat_map, AllByRecursion}
use Rattle.hunk_words.specs.Longs.{longs, bytes_of}
use Rattle.hunk_blocks.specs.Values.{BlockValue, IsBlock}
use Rattle.hunk_blocks.specs.Placed.{Placed}
use Rattle.hunk_blocks.specs.Reading.{BeginsWithSome}
use Rattle.hunk_files.specs.LoadFile.{TableEntry, LoadFileValue, IsTableEntry, IsHunk, AreInOrder, standing}
use Rattle.hunk_files.specs.LoadText.{table}
use Rattle.hunk_files.specs.Tables.{entry_text, hunk_texts}
use Rattle.hunk_files.specs.Hunks.{block_texts}
use Rattle.hunk_files.specs.Cuts.{hunk_cut, load_hunks_cut}
use Rattle.hunk_files.specs.Fault.{BeginsWithLoadFile}

-- Of parts that are still to come the first was given, where one was left, with the byte of the input at which its text
-- begins; after it the next begins.
abbrev pub GivesPart : {A : Type 0} → (A → List ℕ) → Placed (List A) → Option (Placed A) → Placed (List A) → Type 0
GivesPart text old None new = (old.value ≡ []) × (new ≡ old)
GivesPart text old (Some part) new =
    (old ≡ record { place = part.place; value = part.value ∷ new.value })
    × (new.place ≡ part.place + 4 * length (text part.value))

-- From this byte on stand the texts of these parts, and then the rest.
pub record StandAt {A : Type 0} (Is : A → Type 0) (text : A → List ℕ) (bytes : List ℕ) (start : ℕ) (parts : List A) (rest : List ℕ) : Type 0 where
  pub each : AllByRecursion Is parts
  pub inside : start ≤ length bytes
  pub text_is : drop start bytes ≡ bytes_of (flat_map text parts) ++ rest

-- ---- the blocks of a hunk

-- blocks of a hunk up to its END, from one of them on
pub record AreLastBlocks (blocks : List BlockValue) : Type 0 where
  pub each : AllByRecursion IsBlock blocks
  pub has_content : Bool
  pub order : AreInOrder has_content (map (λ b. standing b.body) blocks)

-- The bytes begin with such blocks.
pub record BeginsWithBlocks (bytes : List ℕ) : Type 0 where
  pub blocks : List BlockValue
  pub are : AreLastBlocks blocks
  pub more : List ℕ
  pub begins : bytes ≡ bytes_of (block_texts blocks) ++ more

-- the blocks that the bytes begin with, up to END
abbrev pub blocks_in : List ℕ → List BlockValue
blocks_in bytes = (hunk_cut (longs bytes)).value

-- ---- load files

-- All of the bytes are a load file.
pub record AreLoadFile (bytes : List ℕ) : Type 0 where
  pub file : BeginsWithLoadFile bytes
  pub ends : file.rest ≡ []

-- The longwords begin with this number of entries of a table.
abbrev pub BeginsWithTable : ℕ → List ℕ → Type 0
BeginsWithTable hunks words = BeginsWithSome (λ (entries : List TableEntry). (length entries ≡ hunks) × AllByRecursion IsTableEntry entries) (flat_map entry_text) words

-- The bytes begin with the hunks of these entries.
pub record BeginsWithHunks (entries : List TableEntry) (bytes : List ℕ) : Type 0 where
  pub hunks : LoadFileValue
  pub entries_are : table hunks ≡ entries
  pub most : ℕ
  pub each : AllByRecursion (IsHunk most) hunks
  pub more : List ℕ
  pub begins : bytes ≡ bytes_of (hunk_texts hunks) ++ more

-- the hunks of these entries that the bytes begin with
abbrev pub hunks_in : List TableEntry → List ℕ → LoadFileValue
hunks_in entries bytes = (load_hunks_cut entries (longs bytes)).value
