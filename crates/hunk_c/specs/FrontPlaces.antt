-- How a front is found: by the last of the places between blocks that stand before the fault.
use Rattle.std.specs.Prelude.{◌≡◌, ℕ, ◌+◌, ◌-◌, ◌*◌, ◌<◌, ◌≤◌, true, false, List, ◌++◌, length, slice_index, take, Option, Some, None}
use Rattle.hunk_words.specs.Bits.{has_both_bits}
use Rattle.hunk_words.specs.Longs.{longs, bytes_of}
use Rattle.hunk_grammar.specs.declared.object_position.ObjectPosition.{ObjectPosition}
use Rattle.hunk_grammar.specs.declared.object_position.ObjectPosition.TheVariants as places
use Rattle.hunk_grammar.specs.declared.object_position.WordPlace.{WordPlace}
use Rattle.hunk_grammar.specs.declared.object_position.WordPlace.TheVariants.{BeforeUnits}
use Rattle.hunk_grammar.specs.declared.phase.Phase.TheVariants as phases
use Rattle.hunk_grammar.specs.declared.position.OpenHunk.{OpenHunk}
use Rattle.hunk_grammar.specs.declared.position.Position.{Position}
use Rattle.hunk_grammar.specs.declared.position.Position.TheVariants as positions
use Rattle.hunk_grammar.specs.PhaseSteps as inside
use Rattle.hunk_grammar.specs.Positions as load
use Rattle.hunk_blocks.specs.Faults.{Expects, Grammar}
use Rattle.hunk_blocks.specs.Faults as faults
use Rattle.hunk_files.specs.Machines.{load_at, object_at}
use Rattle.hunk_files.specs.HunkFile.{file_bytes}
use Rattle.hunk_files.specs.declared.hunk_file.HunkFile.{HunkFile}
use Rattle.hunk_c.specs.declared.front.Front.{Front}
use Rattle.hunk_c.specs.Files.{hunks_in}
use Rattle.hunk_c.specs.Fronts.{IsClosed, IsFrontWhere, empty_hunks, hunk_end, open_at}

-- ---- how far a file is read

-- Some text of the grammar begins with the first n longwords, and none goes on from more of them.
pub record ReadsUpTo {Value Role : Type 0} (g : Grammar Value Role) (ws : List ℕ) (n : ℕ) : Type 0 where
  pub inside : n ≤ length ws
  pub front : faults.IsFront g (take n ws)
  pub stops : (m : ℕ) (role : Role) → n < m → m ≤ length ws → Expects g (take m ws) role → ⊥

-- ---- the last of some places

-- Of the numbers up to the end, this is the last at which something is found, and this is found.
pub record IsLast {A : Type 0} (find : ℕ → Option A) (end n : ℕ) (a : A) : Type 0 where
  pub inside : n ≤ end
  pub found : find n ≡ Some a
  pub none_after : (m : ℕ) → n < m → m ≤ end → find m ≡ None

abbrev pub FindsNone : {A : Type 0} → (ℕ → Option A) → ℕ → Type 0
FindsNone find end = (m : ℕ) → m ≤ end → find m ≡ None

-- the hunk that is open between two blocks
abbrev pub hunk_between : Position → Option OpenHunk
hunk_between (positions.Body hunk phases.FirstBlock) = Some hunk
hunk_between (positions.Body hunk phases.BlockWord) = Some hunk
hunk_between position = None

-- the place between two blocks or hunks
abbrev pub place_between : ObjectPosition → Option WordPlace
place_between (places.Word BeforeUnits) = None
place_between (places.Word place) = Some place
place_between position = None

-- after the first n longwords
abbrev pub find_hunk : List ℕ → ℕ → Option OpenHunk
find_hunk ws n = hunk_between (load_at (take n ws))

abbrev pub find_place : List ℕ → ℕ → Option WordPlace
find_place ws n = place_between (object_at (take n ws))

-- ---- what is passed over

-- The number of longwords that come at least and that end no block, but for the last of them.
abbrev pub longest_run : Position → ℕ
longest_run (positions.Body hunk phase) = inside.longest_run phase
longest_run position = 0

-- after all of them
abbrev pub pass_longest_run : Position → Position
pass_longest_run (positions.Body hunk phase) = load.onward hunk (load.after hunk phase) (inside.pass_longest_run phase)
pass_longest_run position = position

-- So many size words stand from the longword on, and no attributes follow any of them.
abbrev pub AreShort : List ℕ → ℕ → ℕ → Type 0
AreShort ws from count = (i : ℕ) → i < count → has_both_bits (slice_index ws (from + i)) ≡ false

-- From the longword on, at this position, nothing is passed, or rows of the table of one longword each, but for its
-- last. They stand before the end, and the other longword and position come after them.
pub data PassesRows (ws : List ℕ) (at : ℕ) (p : Position) (end : ℕ) : ℕ → Position → Type 0 where
  no_rows : PassesRows ws at p end at p
  rows : (hunks owed count : ℕ) → p ≡ positions.SizeWord hunks owed → count ≤ owed → at + count ≤ end
      → AreShort ws at count → PassesRows ws at p end (at + count) (positions.SizeWord hunks (owed - count))

-- ---- what is found

-- the front of a whole load file: all but the END of its last hunk
abbrev pub before_last_end : ℕ → ℕ → Front
before_last_end hunks longs = record { longs = longs - 1; hunks = hunks; open_hunk = Some true; left = 0 }

-- the front of an object file that ends at this place, after so many longwords
abbrev pub front_at : ℕ → WordPlace → Front
front_at longs place = record { longs = longs; hunks = 0; open_hunk = open_at place; left = 0 }

-- the longwords that close the file
abbrev pub closing : Front → List ℕ
closing front = hunk_end front.open_hunk ++ empty_hunks front.left

-- the front of the bytes, and what closes it
abbrev pub closed_bytes : List ℕ → Front → List ℕ
closed_bytes bytes front = take (4 * front.longs) bytes ++ bytes_of (closing front)

-- It is the front of the bytes, and closed so it is a file.
pub record IsFrontOf (Ends : List ℕ → Type 0) (bytes : List ℕ) (front : Front) : Type 0 where
  pub is_front : IsFrontWhere Ends (longs bytes) front.longs
  pub file : HunkFile
  pub closed : IsClosed (take front.longs (longs bytes)) file
  pub hunks_are : front.hunks ≡ hunks_in file
  pub bytes_are : file_bytes file ≡ closed_bytes bytes front
