-- The end of a file among the bytes of its source: from there on all bytes pass.
use Rattle.std.specs.Prelude.{◌≡◌, ℕ, zero, suc, ◌≤◌, List, [], ◌∷◌, ◌++◌, length, drop, Option, Some}
use Rattle.std.specs.Int.{from_be_bytes, w32}
use Rattle.hunk_wide.specs.declared.spot.Spot.{Spot}
use Rattle.hunk_wide.specs.declared.spot.Spot.TheVariants.{Passing, Straight, Long, Half, Filler}
use Rattle.hunk_wide.specs.Halves.{behind_filler, behind_half, half_of}
use Rattle.hunk_wide.specs.Held.{Held, left_of}
use Rattle.hunk_wide.specs.Longwords.{behind_long}

-- What the bytes after these are for. Those of a unit that is not whole are left aside.
unfoldable pub spot_after : Spot → List ℕ → Spot
spot_after (Straight zero next) (b ∷ rest) = spot_after (Long next) rest
spot_after (Straight (suc owed) next) (b ∷ rest) = spot_after (Straight owed next) rest
spot_after (Long p) (a ∷ b ∷ c ∷ d ∷ rest) = spot_after (behind_long p (from_be_bytes w32 (a ∷ b ∷ c ∷ d ∷ []))) rest
spot_after (Half after part odd) (a ∷ b ∷ rest) = spot_after (behind_half after part odd (half_of a b)) rest
spot_after (Filler after) (a ∷ b ∷ rest) = spot_after (behind_filler after a b) rest
spot_after spot bytes = spot

-- What follows these bytes is for this.
abbrev pub LeadsTo : Spot → List ℕ → Spot → Type 0
LeadsTo spot bytes next = (more : List ℕ) → spot_after spot (bytes ++ more) ≡ spot_after next more

-- What the bytes after these are for, where these are still to come.
abbrev pub spot_of : Held → List ℕ → Spot
spot_of h more = spot_after h.spot (h.begun ++ more)

-- The source has the last bytes of a file and then `rest`, and for what is held and those bytes `file` is still to be
-- given out.
pub record InFile (h : Held) (left : Option (List ℕ)) (file rest : List ℕ) : Type 0 where
  pub bytes : List ℕ
  pub source : left ≡ Some (bytes ++ rest)
  pub ends : spot_of h bytes ≡ Passing
  pub gives : left_of h bytes ≡ file

-- Where so many bytes of a file are given out, no byte after it is taken.
abbrev pub StaysInFile : Held → Option (List ℕ) → Held → Option (List ℕ) → ℕ → Type 0
StaysInFile h left k after n = (file rest : List ℕ) → InFile h left file rest → n ≤ length file → InFile k after (drop n file) rest
