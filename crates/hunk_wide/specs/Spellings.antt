-- What a wide spelling has otherwise than the plain one, in numbers.
use Rattle.std.specs.Prelude.{◌≡◌, ℕ, zero, suc, ◌+◌, ◌*◌, ◌<◌, ◌≤◌, Bool, true, false, List, [], ◌∷◌, length, drop, if◌then◌else◌}
use Rattle.std.specs.Int.{from_be_bytes, w32}
use Rattle.hunk_grammar.specs.declared.position.Position.TheVariants as positions
use Rattle.hunk_wide.specs.declared.position.FilePosition.{FilePosition}
use Rattle.hunk_wide.specs.declared.position.FilePosition.TheVariants as files
use Rattle.hunk_wide.specs.declared.spot.Spot.{Spot}
use Rattle.hunk_wide.specs.declared.spot.Spot.TheVariants.{Straight, Long, Half, Filler}
use Rattle.hunk_wide.specs.declared.spot.Given.{Given}
use Rattle.hunk_wide.specs.declared.spot.Given.TheVariants.{Same, BehindEnd, AsLong}
use Rattle.hunk_wide.specs.FileEnds.{ends, is_last}
use Rattle.hunk_wide.specs.Halves.{behind_filler, behind_half, half_of}
use Rattle.hunk_wide.specs.Longwords.{behind_long, given}
use Rattle.hunk_wide.specs.Plain.{plain_from}

-- The sum over the longwords of what each counts, by what is given out for it, and of what the end of the input counts.
unfoldable pub counted : (Given → ℕ) → (FilePosition → ℕ) → Spot → List ℕ → ℕ
counted of_long of_end (Straight zero next) (b ∷ rest) = counted of_long of_end (Long next) rest
counted of_long of_end (Straight (suc owed) next) (b ∷ rest) = counted of_long of_end (Straight owed next) rest
counted of_long of_end (Long p) (a ∷ b ∷ c ∷ d ∷ rest) =
    of_long (given p (from_be_bytes w32 (a ∷ b ∷ c ∷ d ∷ [])))
    + counted of_long of_end (behind_long p (from_be_bytes w32 (a ∷ b ∷ c ∷ d ∷ []))) rest
counted of_long of_end (Long p) [] = of_end p
counted of_long of_end (Half after part odd) (a ∷ b ∷ rest) = counted of_long of_end (behind_half after part odd (half_of a b)) rest
counted of_long of_end (Filler after) (a ∷ b ∷ rest) = counted of_long of_end (behind_filler after a b) rest
counted of_long of_end spot bytes = 0

-- the word of a short block counts
abbrev pub is_short : Given → Bool
is_short Same = false
is_short BehindEnd = false
is_short AsLong = true

-- an END that is put in counts
abbrev pub has_end : Given → Bool
has_end Same = false
has_end BehindEnd = true
has_end AsLong = false

abbrev pub one_if : Bool → ℕ
one_if b = if b then 1 else 0

abbrev pub short_blocks_from : Spot → List ℕ → ℕ
short_blocks_from spot bytes = counted (λ g. one_if (is_short g)) (λ p. 0) spot bytes

abbrev pub ends_from : Spot → List ℕ → ℕ
ends_from spot bytes = counted (λ g. one_if (has_end g)) (λ p. one_if (ends p)) spot bytes

-- How many blocks the input has whose word the plain spelling has as RELOC32.
abbrev pub short_blocks_of : List ℕ → ℕ
short_blocks_of bytes = short_blocks_from (Long (files.Load positions.FirstLong)) bytes

-- How many END the plain spelling has that the input leaves out.
abbrev pub ends_of : List ℕ → ℕ
ends_of bytes = ends_from (Long (files.Load positions.FirstLong)) bytes

-- ---- one step over an input

-- So many bytes are in front, and these numbers for them, of short blocks and of END no more than bytes; what is counted after
-- them is by what they lead to.
pub record BeginsWith (s : Spot) (bytes : List ℕ) (size given short ends : ℕ) (next : Spot) : Type 0 where
  pub some : 0 < size
  pub whole : size ≤ length bytes
  pub few : short + ends ≤ size
  pub len : length (plain_from s bytes) ≡ given + length (plain_from next (drop size bytes))
  pub short_blocks : short_blocks_from s bytes ≡ short + short_blocks_from next (drop size bytes)
  pub count : ends_from s bytes ≡ ends + ends_from next (drop size bytes)

-- an END is put in at the end of the input
abbrev pub ends_last : Spot → List ℕ → Bool
ends_last s [] = is_last s
ends_last s (b ∷ bytes) = false

-- No unit is whole, and only the END of the file may be put in.
pub record EndsThere (s : Spot) (bytes : List ℕ) : Type 0 where
  pub len : length (plain_from s bytes) ≡ length bytes + 4 * one_if (ends_last s bytes)
  pub short_blocks : short_blocks_from s bytes ≡ 0
  pub ends : ends_from s bytes ≡ one_if (ends_last s bytes)
