-- Hunks of a load file that are read where they lie, one by one.
use Rattle.std.specs.Prelude.{◌≡◌, ℕ, ◌*◌, List, [], ◌∷◌, Option, Some, None}
use Rattle.hunk_blocks.specs.Placed.{Placed}
use Rattle.hunk_files.specs.declared.load.hunk_views.LoadHunkView.{LoadHunkView}
use Rattle.hunk_files.specs.Hunks.{block_texts}
use Rattle.hunk_files.specs.Image.{image}
use Rattle.hunk_files.specs.InPlace.{GivesPart}
use Rattle.hunk_files.specs.LoadFile.{HunkValue, IsHunk, declared_longs}
use Rattle.hunk_files.specs.Tables.{size_entry}

-- what the table declares of the hunk, and its blocks
abbrev pub hunk_seen : LoadHunkView → HunkValue
hunk_seen h = record { entry = size_entry h.size; blocks = h.blocks.value }

-- Of hunks that are still to come the first was given, where one was left.
abbrev pub GivesHunk : Placed (List HunkValue) → Option LoadHunkView → Placed (List HunkValue) → Type 0
GivesHunk old None new = GivesPart (λ h. block_texts h.blocks) old None new
GivesHunk old (Some h) new = GivesPart (λ h. block_texts h.blocks) old (Some (record { place = h.blocks.place; value = hunk_seen h })) new

-- Hunks are still to come, of a file of so many, and the first has so many bytes in memory.
abbrev pub FitsFirst : ℕ → ℕ → List HunkValue → Type 0
FitsFirst hunks size [] = ⊥
FitsFirst hunks size (h ∷ later) = IsHunk hunks h × (size ≡ 4 * declared_longs h)

-- Of hunks that were still to come the first has this memory at these bases, and the others are still to come.
abbrev pub FillsFirst : List ℕ → List HunkValue → List ℕ → List HunkValue → Type 0
FillsFirst bases [] memory left = ⊥
FillsFirst bases (h ∷ later) memory left = (memory ≡ image bases h) × (left ≡ later)
