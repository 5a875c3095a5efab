-- The plain spelling of what a wide one spells: all that is given out, by what the next bytes are for.
use Rattle.std.specs.Prelude.{◌≡◌, ℕ, zero, suc, List, [], ◌∷◌, ◌++◌}
use Rattle.std.specs.Int.{from_be_bytes, w32}
use Rattle.hunk_grammar.specs.declared.position.Position.TheVariants as positions
use Rattle.hunk_wide.specs.declared.position.FilePosition.TheVariants as files
use Rattle.hunk_wide.specs.declared.spot.Spot.{Spot}
use Rattle.hunk_wide.specs.declared.spot.Spot.TheVariants.{Straight, Long, Half, Filler}
use Rattle.hunk_wide.specs.FileEnds.{ending}
use Rattle.hunk_wide.specs.Halves.{behind_filler, behind_half, half_of, out_filler}
use Rattle.hunk_wide.specs.Longwords.{behind_long, given, out_long}

-- The plain spelling of what these bytes spell from here to the end of the input.
unfoldable pub plain_from : Spot → List ℕ → List ℕ
plain_from (Straight zero next) (b ∷ rest) = b ∷ plain_from (Long next) rest
plain_from (Straight (suc owed) next) (b ∷ rest) = b ∷ plain_from (Straight owed next) rest
plain_from (Long p) (a ∷ b ∷ c ∷ d ∷ rest) =
    out_long (given p (from_be_bytes w32 (a ∷ b ∷ c ∷ d ∷ []))) (a ∷ b ∷ c ∷ d ∷ []) (from_be_bytes w32 (a ∷ b ∷ c ∷ d ∷ []))
    ++ plain_from (behind_long p (from_be_bytes w32 (a ∷ b ∷ c ∷ d ∷ []))) rest
plain_from (Long p) [] = ending p
plain_from (Half after part odd) (a ∷ b ∷ rest) = (0 ∷ 0 ∷ a ∷ b ∷ []) ++ plain_from (behind_half after part odd (half_of a b)) rest
plain_from (Filler after) (a ∷ b ∷ rest) = out_filler a b ++ plain_from (behind_filler after a b) rest
plain_from spot bytes = bytes

-- The plain spelling that the input is read as.
abbrev pub plain : List ℕ → List ℕ
plain bytes = plain_from (Long (files.Load positions.FirstLong)) bytes

-- For these bytes those are given out, whatever follows them, and what follows is for this.
abbrev pub GivesFor : Spot → List ℕ → List ℕ → Spot → Type 0
GivesFor spot bytes given next = (more : List ℕ) → plain_from spot (bytes ++ more) ≡ given ++ plain_from next more
