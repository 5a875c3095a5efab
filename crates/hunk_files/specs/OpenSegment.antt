-- The memory of the open hunk, as far as it was read.
use Rattle.std.specs.Prelude.{ℕ, ◌*◌, List, [], ◌++◌, map}
use Rattle.std.specs.List.{flat_map}
use Rattle.hunk_words.specs.Bits.{size_longs}
use Rattle.hunk_words.specs.Longs.{bytes_of}
use Rattle.hunk_blocks.specs.BlockSteps.{Filling, Counted, SizedCode, SizedData, Inside, InPayload, AtGroup, AtTarget, InOffsets, BlockNext, Open, Whole}
use Rattle.hunk_files.specs.Image.{block_content, block_relocations, group_relocations, filled, relocated}
use Rattle.hunk_files.specs.FileSteps.{HunkSoFar}

abbrev pub filling_bytes : Filling → List ℕ → List ℕ
filling_bytes (Counted c) ws = []
filling_bytes (SizedCode top) ws = bytes_of ws
filling_bytes (SizedData top) ws = bytes_of ws

-- the content bytes, and the relocations, of what has come of a block
abbrev pub bytes_in : Inside → List ℕ
bytes_in (InPayload f done owed) = filling_bytes f done
bytes_in _ = []

abbrev pub pairs_to : ℕ → List ℕ → List (ℕ × ℕ)
pairs_to target offsets = map (λ offset. (offset, target)) offsets

abbrev pub pairs_in : Inside → List (ℕ × ℕ)
pairs_in (AtGroup groups) = flat_map group_relocations groups
pairs_in (AtTarget groups owed) = flat_map group_relocations groups
pairs_in (InOffsets groups target done owed) = flat_map group_relocations groups ++ pairs_to target done
pairs_in _ = []

abbrev pub bytes_so_far : BlockNext → List ℕ
bytes_so_far (Open x) = bytes_in x
bytes_so_far (Whole body) = block_content body

abbrev pub pairs_so_far : BlockNext → List (ℕ × ℕ)
pairs_so_far (Open x) = pairs_in x
pairs_so_far (Whole body) = block_relocations body

-- ---- the open hunk

abbrev pub open_bytes : HunkSoFar → BlockNext → List ℕ
open_bytes o n = flat_map (λ b. block_content b.body) o.blocks ++ bytes_so_far n

abbrev pub open_pairs : HunkSoFar → BlockNext → List (ℕ × ℕ)
open_pairs o n = flat_map (λ b. block_relocations b.body) o.blocks ++ pairs_so_far n

abbrev pub segment_so_far : List ℕ → HunkSoFar → BlockNext → List ℕ
segment_so_far bases o n = relocated bases (filled (4 * size_longs o.entry.word) (open_bytes o n)) (open_pairs o n)
