-- Offsets whose longs overlap.
use Rattle.std.specs.Prelude.{ℕ, ◌+◌, ◌<◌, ◌≤◌, List, [], map, slice_get, unwrap_or}
use Rattle.std.specs.List.{Contains}
use Rattle.hunk_files.specs.LoadFile.{LoadFileValue}
use Rattle.hunk_files.specs.Image.{offsets, relocations}

-- The second lies 1 to 3 above the first.
abbrev pub IsClose : ℕ → ℕ → Type 0
IsClose a b = (a < b) × (b < a + 4)

-- No two offsets are 1 to 3 apart.
abbrev pub AreApart : List ℕ → Type 0
AreApart offsets = (a b : ℕ) → Contains offsets a → Contains offsets b → IsClose a b → ⊥

-- The smaller and the larger of the neighbours, among the distinct offsets in rising order, that are 1 to 3 apart
-- and have the least smaller offset.
pub record IsFirstOverlap (offsets : List ℕ) (smaller larger : ℕ) : Type 0 where
  pub has_smaller : Contains offsets smaller
  pub has_larger : Contains offsets larger
  pub close : IsClose smaller larger
  pub neighbours : (c : ℕ) → Contains offsets c → smaller < c → larger ≤ c
  pub least : (c d : ℕ) → Contains offsets c → Contains offsets d → IsClose c d → smaller ≤ c

-- The offsets of all relocations of hunk i, in file order.
abbrev pub hunk_offsets : LoadFileValue → ℕ → List ℕ
hunk_offsets v i = unwrap_or (slice_get (map (λ h. offsets (relocations h)) v) i) []
