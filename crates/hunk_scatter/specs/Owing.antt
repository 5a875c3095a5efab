-- What is still to come of a content, a name, a payload or a list of offsets, and of a file.
use Rattle.std.specs.Prelude.{◌≡◌, ℕ, ◌+◌, ◌*◌, ◌%◌, ◌<◌, ◌≤◌, Bool, true, false, List, ◌++◌, length}
use Rattle.hunk_words.specs.Longs.{bytes_of, longs}
use Rattle.hunk_grammar.specs.BlockParts.{Part as parts}
use Rattle.hunk_blocks.specs.Faults.{words}
use Rattle.hunk_files.specs.LoadFile.{LoadFileValue, IsLoadFile}
use Rattle.hunk_files.specs.LoadText.{labelled, text}
use Rattle.hunk_files.specs.Machines.{leading}
use Rattle.hunk_grammar.specs.Roles.{Role, InBlock}

-- the most bytes that a loader wants at a time
abbrev pub most_want : ℕ
most_want = 256

-- a longword of a content, a name, a payload or a list of offsets
abbrev pub is_in_run : Role → Bool
is_in_run (InBlock p parts.Payload) = true
is_in_run (InBlock p parts.Offset) = true
is_in_run (InBlock p parts.EntryName) = true
is_in_run _ = false

-- this many of them come next
abbrev pub run_of : List (Role × ℕ) → ℕ
run_of ls = leading is_in_run ls

-- A load text begins with the bytes, and this many bytes of a content, a name, a payload or a list of offsets are to come
-- in it.
pub record BytesToCome (fed : List ℕ) (p : ℕ) : Type 0 where
  pub value : LoadFileValue
  pub is_load_file : IsLoadFile value
  pub done : List (Role × ℕ)
  pub more : List (Role × ℕ)
  pub pending : List ℕ
  pub labels : labelled value ≡ done ++ more
  pub spelled : fed ≡ bytes_of (words done) ++ pending
  pub few : length pending < 4
  pub count : p + length pending ≡ 4 * run_of more

-- Each load file that begins with the bytes has this many more at least, and one that begins with their longwords ends just then.
pub record FileOwes (fed : List ℕ) (owed : ℕ) : Type 0 where
  pub least : (v : LoadFileValue) (rest : List ℕ) → IsLoadFile v → bytes_of (text v) ≡ fed ++ rest → owed ≤ length rest
  pub value : LoadFileValue
  pub is_load_file : IsLoadFile value
  pub more : List ℕ
  pub begins : text value ≡ longs fed ++ more
  pub ends : owed + length fed % 4 ≡ 4 * length more
