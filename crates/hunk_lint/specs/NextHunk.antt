-- The hunk that comes next among the items of a file.
use Rattle.std.specs.Prelude.{List, [], ◌∷◌, ⊤}
use Rattle.hunk_blocks.specs.Values.{BlockValue}
use Rattle.hunk_files.specs.Items.{ItemValue, HunkItem, BlockItem}

-- A hunk begins.
abbrev pub IsAtHunk : List ItemValue → Type 0
IsAtHunk (HunkItem unit number h ∷ rest) = ⊤
IsAtHunk _ = ⊥

-- the blocks of the hunk that begins
abbrev pub blocks_of_first : List ItemValue → List BlockValue
blocks_of_first (HunkItem unit number h ∷ rest) = h
blocks_of_first _ = []

-- the blocks of the open hunk that still come
abbrev pub first_blocks : List ItemValue → List BlockValue
first_blocks (BlockItem unit hunk b ∷ rest) = b ∷ first_blocks rest
first_blocks _ = []

-- the items after these
abbrev pub after_blocks : List ItemValue → List ItemValue
after_blocks (BlockItem unit hunk b ∷ rest) = after_blocks rest
after_blocks items = items
