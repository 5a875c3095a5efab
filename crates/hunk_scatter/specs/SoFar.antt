-- What the store of a loader holds of a file that it has begun.
use Rattle.std.specs.Prelude.{◌≡◌, ℕ, ◌*◌, List, ◌∷◌, ◌++◌, length}
use Rattle.std.specs.List.{flat_map}
use Rattle.hunk_files.specs.Image.{block_content, filled, images, relocated, relocations}
use Rattle.hunk_files.specs.LoadFile.{HunkValue, LoadFileValue, declared_longs}
use Rattle.hunk_files.specs.LoadText.{table}
use Rattle.hunk_files.specs.declared.row.Row.{Row}
use Rattle.hunk_scatter.specs.Rows.{bases_of}
use Rattle.hunk_scatter.specs.StoreContent.{zeros}

-- The first hunks of the file, so many, as they stay; the next with the first of its content and of its relocations; and
-- zero bytes.
pub record HoldsSoFar (rows : List Row) (store : List ℕ) (hunk : ℕ) (v : LoadFileValue) : Type 0 where
  pub whole : List HunkValue
  pub hunk_open : HunkValue
  pub ahead : List HunkValue
  pub bytes : List ℕ
  pub more_bytes : List ℕ
  pub pairs : List (ℕ × ℕ)
  pub more_pairs : List (ℕ × ℕ)
  pub hunks_are : v ≡ whole ++ hunk_open ∷ ahead
  pub hunk_is : hunk ≡ length whole
  pub content_is : flat_map (λ b. block_content b.body) hunk_open.blocks ≡ bytes ++ more_bytes
  pub relocations_are : relocations hunk_open ≡ pairs ++ more_pairs
  pub store_is : store
      ≡ images (bases_of rows) whole
      ++ (relocated (bases_of rows) (filled (4 * declared_longs hunk_open) bytes) pairs ++ zeros (table ahead))
