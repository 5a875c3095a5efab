-- Reading a load file, longword by longword: what has been read so far, as a value with its open end.
use Rattle.std.specs.Prelude.{◌≡◌, ℕ, zero, suc, Bool, true, false, List, [], ◌∷◌, ◌++◌}
use Rattle.hunk_words.specs.Bits.{size_longs, has_both_bits, kind}
use Rattle.hunk_blocks.specs.Values.{BlockBody, BlockValue}
use Rattle.hunk_grammar.specs.BlockParts.{Part as parts}
use Rattle.hunk_files.specs.LoadFile.{TableEntry, HunkValue, LoadFileValue, standing}
use Rattle.hunk_grammar.specs.Standings.{BlockStanding, Beside, Content, Relocating, Ending}
use Rattle.hunk_grammar.specs.Roles.{Place, Role, InBlock, Role as roles}
use Rattle.hunk_blocks.specs.BlockSteps.{Inside, BlockNext, Open, Whole, part_of, step_inside, begin_body}

abbrev pub table_entry : ℕ → ℕ → TableEntry
table_entry word extra = record { word = word; extra = extra }

abbrev pub hunk : TableEntry → List BlockValue → HunkValue
hunk entry blocks = record { entry = entry; blocks = blocks }

abbrev pub block : ℕ → BlockBody → BlockValue
block word body = record { word = word; body = body }

-- A hunk that is open: the hunks before it, its entry and whole blocks, and the entries of the hunks after it.
pub record HunkSoFar : Type 0 where
  pub hunks : ℕ
  pub finished : List HunkValue
  pub entry : TableEntry
  pub blocks : List BlockValue
  pub has_content : Bool
  pub ahead : List TableEntry

-- What has been read of a load file that is not whole. In the table, the last number says how many entries follow.
pub data Progress : Type 0 where
  AtFirst : Progress
  AtResident : Progress
  AtTableSize : Progress
  AtFirstHunk : ℕ → Progress
  AtLastHunk : ℕ → Progress
  AtSizeWord : ℕ → List TableEntry → ℕ → Progress
  AtAttributes : ℕ → List TableEntry → ℕ → ℕ → Progress
  AtBlock : HunkSoFar → Progress
  InBody : HunkSoFar → ℕ → Inside → Progress

pub data Next : Type 0 where
  More : Progress → Next
  Finished : LoadFileValue → Next

abbrev pub place_of : HunkSoFar → Place
place_of o = record { hunks = o.hunks; longs = size_longs o.entry.word; has_content = o.has_content }

abbrev pub role_of : Progress → Role
role_of AtFirst = roles.FirstLong
role_of AtResident = roles.ResidentName
role_of AtTableSize = roles.TableSize
role_of (AtFirstHunk hunks) = roles.FirstHunk
role_of (AtLastHunk hunks) = roles.LastHunk hunks
role_of (AtSizeWord hunks done owed) = roles.SizeWord
role_of (AtAttributes hunks done word owed) = roles.Attributes
role_of (AtBlock o) = InBlock (place_of o) parts.BlockWord
role_of (InBody o word x) = InBlock (place_of o) (part_of x)

-- ---- the step

-- the hunks with these entries come next
abbrev pub open_hunk : ℕ → List HunkValue → List TableEntry → Next
open_hunk hunks finished [] = Finished finished
open_hunk hunks finished (entry ∷ ahead) =
    More (AtBlock (record { hunks = hunks; finished = finished; entry = entry; blocks = []; has_content = false; ahead = ahead }))

-- this number of entries is owed
abbrev pub rows : ℕ → List TableEntry → ℕ → Next
rows hunks done zero = open_hunk hunks [] done
rows hunks done (suc owed) = More (AtSizeWord hunks done owed)

abbrev pub with_block : HunkSoFar → BlockValue → Bool → HunkSoFar
with_block o b has_content =
    record {
      hunks = o.hunks;
      finished = o.finished;
      entry = o.entry;
      blocks = o.blocks ++ b ∷ [];
      has_content = has_content;
      ahead = o.ahead;
    }

abbrev pub close_by : HunkSoFar → BlockValue → BlockStanding → Next
close_by o b Beside = More (AtBlock (with_block o b o.has_content))
close_by o b Relocating = More (AtBlock (with_block o b o.has_content))
close_by o b Content = More (AtBlock (with_block o b true))
close_by o b Ending = open_hunk o.hunks (o.finished ++ hunk o.entry (o.blocks ++ b ∷ []) ∷ []) o.ahead

-- a block is whole
abbrev pub close : HunkSoFar → BlockValue → Next
close o b = close_by o b (standing b.body)

abbrev pub after : HunkSoFar → ℕ → BlockNext → Next
after o word (Open x) = More (InBody o word x)
after o word (Whole body) = close o (block word body)

abbrev pub sized_row : ℕ → List TableEntry → ℕ → ℕ → Bool → Next
sized_row hunks done word owed true = More (AtAttributes hunks done word owed)
sized_row hunks done word owed false = rows hunks (done ++ table_entry word 0 ∷ []) owed

abbrev pub step_file : Progress → ℕ → Next
step_file AtFirst w = More AtResident
step_file AtResident w = More AtTableSize
step_file AtTableSize w = More (AtFirstHunk w)
step_file (AtFirstHunk hunks) w = More (AtLastHunk hunks)
step_file (AtLastHunk hunks) w = rows hunks [] hunks
step_file (AtSizeWord hunks done owed) w = sized_row hunks done w owed (has_both_bits w)
step_file (AtAttributes hunks done word owed) w = rows hunks (done ++ table_entry word w ∷ []) owed
step_file (AtBlock o) w = after o w (begin_body (kind w))
step_file (InBody o word x) w = after o word (step_inside x w)

-- ---- runs

-- From one state these longwords, each with the role that is expected, lead to another.
abbrev pub Leads : Next → List (Role × ℕ) → Next → Type 0
Leads start [] end = start ≡ end
Leads (More p) (l ∷ ls) end = (role_of p ≡ l.0) × Leads (step_file p l.1) ls end
Leads (Finished v) (l ∷ ls) end = ⊥
