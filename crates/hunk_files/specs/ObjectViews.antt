-- The units and hunks of an object file, read where they lie.
use Rattle.std.specs.Prelude.{◌≡◌, ℕ, true, List, [], drop}
use Rattle.hunk_words.specs.Longs.{longs}
use Rattle.hunk_files.specs.Cuts.{hunk_cut}
use Rattle.hunk_files.specs.Hunks.{block_texts}
use Rattle.hunk_blocks.specs.Placed.{Placed}
use Rattle.hunk_files.specs.InPlace.{StandAt}
use Rattle.hunk_files.specs.ObjectFile.{ObjectHunk, UnitValue, ObjectFileValue, IsObjectHunk, IsUnit, unit_text}
use Rattle.hunk_files.specs.UnitCuts.{ends_unit, hunks_cut, unit_cut, units_cut}

-- ---- hunks and units that stand in bytes

-- From this byte on stand hunks, after which their unit ends.
pub record HunksAt (bytes : List ℕ) (start : ℕ) : Type 0 where
  pub hunks : List ObjectHunk
  pub rest : List ℕ
  pub stand : StandAt IsObjectHunk block_texts bytes start hunks rest
  pub next : ends_unit (longs rest) ≡ true

-- From this byte on the bytes are units.
pub record UnitsAt (bytes : List ℕ) (start : ℕ) : Type 0 where
  pub units : ObjectFileValue
  pub stand : StandAt IsUnit unit_text bytes start units []

-- ---- what stands at a byte, by its longwords

abbrev pub hunk_at : List ℕ → ℕ → Placed ObjectHunk
hunk_at bytes start = record { place = start; value = (hunk_cut (longs (drop start bytes))).value }

abbrev pub hunks_at : List ℕ → ℕ → Placed (List ObjectHunk)
hunks_at bytes start = record { place = start; value = (hunks_cut (longs (drop start bytes))).value }

abbrev pub unit_at : List ℕ → ℕ → Placed UnitValue
unit_at bytes start = record { place = start; value = (unit_cut (longs (drop start bytes))).value }

abbrev pub units_at : List ℕ → ℕ → Placed ObjectFileValue
units_at bytes start = record { place = start; value = (units_cut (longs (drop start bytes))).value }

-- the units that the bytes are
abbrev pub units_of : List ℕ → ObjectFileValue
units_of bytes = (units_cut (longs bytes)).value
