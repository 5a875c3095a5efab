-- What stands in a file, in the caller's rows.
use Rattle.std.specs.Prelude.{◌≡◌, ℕ, ◌<◌, ◌≤◌, List, ◌++◌, length, drop}
use Rattle.std.specs.List.{flat_map}
use Rattle.hunk_words.specs.Carriers.{saturated}
use Rattle.hunk_words.specs.declared.fault.Fault.{Fault}
use Rattle.hunk_files.specs.HunkFile.{IsFileOf, file_bytes}
use Rattle.hunk_files.specs.StandingBlocks.{StandingBlock, standing_blocks}
use Rattle.hunk_files.specs.declared.hunk_file.HunkFile.{HunkFile}
use Rattle.hunk_c.specs.declared.answer.Answer.{Answer}
use Rattle.hunk_c.specs.Answers.{refused, no_room, done}
use Rattle.hunk_c.specs.Files.{AreNoFile, hunks_in}

-- the rows of all blocks of a file, in file order
abbrev pub rows_in : {Row : Type 0} → (StandingBlock → List Row) → HunkFile → List Row
rows_in rows file = flat_map rows (standing_blocks file)

-- What a list of what stands in a file comes to. The caller's rows begin with those of the file, and what lies after them is as
-- it was; or all are as they were. Where they are too few, the answer tells how many are needed, by `told`.
pub data Lists {Row : Type 0} (rows : HunkFile → List Row) (told : ℕ → ℕ) (bytes : List ℕ) (old new : List Row) (answer : Answer) : Type 0 where
  HasRows : (file : HunkFile) → IsFileOf bytes file → length (rows file) ≤ length old
      → new ≡ rows file ++ drop (length (rows file)) old
      → answer ≡ done (hunks_in file) (length (file_bytes file)) (length (rows file)) → Lists rows told bytes old new answer
  HasNoRoom : (file : HunkFile) → IsFileOf bytes file → length old < length (rows file) → new ≡ old
      → answer ≡ no_room (hunks_in file) (length (file_bytes file)) (told (length (rows file))) → Lists rows told bytes old new answer
  HasNoFile : (f : Fault) → AreNoFile bytes f → new ≡ old → answer ≡ refused f → Lists rows told bytes old new answer

-- those of which just so many are told
abbrev pub ListsExactly : {Row : Type 0} → (HunkFile → List Row) → List ℕ → List Row → List Row → Answer → Type 0
ListsExactly rows = Lists rows (λ n. n)

-- and those of which 2^64 - 1 are told at most
abbrev pub Tabulates : {Row : Type 0} → (HunkFile → List Row) → List ℕ → List Row → List Row → Answer → Type 0
Tabulates rows = Lists rows saturated

-- Where a file is in front, and there is a row for each thing, they are listed.
abbrev pub ListsWhatFits : {Row : Type 0} → (HunkFile → List Row) → ℕ → List ℕ → Answer → Type 0
ListsWhatFits rows room bytes answer =
    (file : HunkFile) → IsFileOf bytes file → length (rows file) ≤ room → answer.number ≡ 0
