-- Where a unit of an object file stands.
use Rattle.std.specs.Prelude.{◌≡◌, ℕ, true, List, ◌++◌, drop}
use Rattle.hunk_words.specs.Longs.{bytes_of, longs}
use Rattle.hunk_files.specs.ObjectFile.{UnitValue, IsUnit, unit_text}
use Rattle.hunk_files.specs.UnitCuts.{ends_unit}

-- At this byte stands a unit, which ends before what follows.
pub record UnitAt (bytes : List ℕ) (start : ℕ) : Type 0 where
  pub unit : UnitValue
  pub is : IsUnit unit
  pub rest : List ℕ
  pub text : drop start bytes ≡ bytes_of (unit_text unit) ++ rest
  pub next : ends_unit (longs rest) ≡ true
