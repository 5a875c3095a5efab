-- From which byte of a wide spelling a byte of the plain one comes.
use Rattle.std.specs.Prelude.{◌≡◌, ℕ, zero, suc, ◌+◌, ◌-◌, ◌<◌, ◌≤◌, nat_lt, List, [], ◌∷◌, length, take, drop, min, if◌then◌else◌}
use Rattle.std.specs.Int.{from_be_bytes, w32}
use Rattle.hunk_grammar.specs.declared.position.Position.TheVariants as positions
use Rattle.hunk_wide.specs.declared.position.FilePosition.TheVariants as files
use Rattle.hunk_wide.specs.declared.spot.Spot.{Spot}
use Rattle.hunk_wide.specs.declared.spot.Spot.TheVariants.{Straight, Long, Half, Filler}
use Rattle.hunk_wide.specs.declared.spot.Given.{Given}
use Rattle.hunk_wide.specs.declared.spot.Given.TheVariants.{Same, BehindEnd, AsLong}
use Rattle.hunk_wide.specs.Halves.{behind_filler, behind_half, half_of, out_filler}
use Rattle.hunk_wide.specs.Longwords.{behind_long, given}
use Rattle.hunk_wide.specs.Plain.{GivesFor}

-- how many bytes are given out for a longword
abbrev pub count_long : Given → ℕ
count_long Same = 4
count_long BehindEnd = 8
count_long AsLong = 4

-- Byte n is one of those that are given out for this unit, of so many bytes, or comes later. Bytes that are put in stand before
-- those of the unit, and have the place of its first one.
abbrev pub here_or : ℕ → ℕ → ℕ → ℕ → ℕ
here_or unit given n later = if nat_lt n given then n - (given - unit) else unit + later

-- How many bytes come before the one for which byte n, counted from 0, is given out. Bytes that are given out as they are
-- go one by one, and so do those of a unit that is not whole. After all that is given out the bytes end.
unfoldable pub place_from : Spot → List ℕ → ℕ → ℕ
place_from (Straight zero next) (b ∷ rest) n = here_or 1 1 n (place_from (Long next) rest (n - 1))
place_from (Straight (suc owed) next) (b ∷ rest) n = here_or 1 1 n (place_from (Straight owed next) rest (n - 1))
place_from (Long p) (a ∷ b ∷ c ∷ d ∷ rest) n =
    here_or 4 (count_long (given p (from_be_bytes w32 (a ∷ b ∷ c ∷ d ∷ [])))) n
    (place_from (behind_long p (from_be_bytes w32 (a ∷ b ∷ c ∷ d ∷ []))) rest (n - count_long (given p (from_be_bytes w32 (a ∷ b ∷ c ∷ d ∷ [])))))
place_from (Half after part odd) (a ∷ b ∷ rest) n = here_or 2 4 n (place_from (behind_half after part odd (half_of a b)) rest (n - 4))
place_from (Filler after) (a ∷ b ∷ rest) n = here_or 2 (length (out_filler a b)) n (place_from (behind_filler after a b) rest (n - length (out_filler a b)))
place_from spot bytes n = min n (length bytes)

-- Where in an input a byte of its plain spelling comes from.
abbrev pub place_of : List ℕ → ℕ → ℕ
place_of input place = place_from (Long (files.Load positions.FirstLong)) input place

-- Units of this size are in front, for which so many bytes are given out, byte n by the first of them or none, and after
-- them the next bytes are for this.
pub record GoesBy (s : Spot) (bytes : List ℕ) (n size given : ℕ) (next : Spot) : Type 0 where
  pub some : 0 < size
  pub whole : size ≤ length bytes
  pub goes : place_from s bytes n ≡ here_or size given n (place_from next (drop size bytes) (n - given))

-- Whatever follows the first bytes, this number of them, the same are given out for them, and no more than n.
pub record ComesFrom (s : Spot) (bytes : List ℕ) (n at : ℕ) : Type 0 where
  pub given : List ℕ
  pub spot : Spot
  pub front : GivesFor s (take at bytes) given spot
  pub most : length given ≤ n

-- The byte at this place is one of a unit, of at most four bytes, that begins where the bytes come from that are given out
-- before byte n or with it.
pub record IsOfUnit (s : Spot) (bytes : List ℕ) (n at : ℕ) : Type 0 where
  pub start : ℕ
  pub front : ComesFrom s bytes n start
  pub after : start ≤ at
  pub near : at ≤ start + 3
