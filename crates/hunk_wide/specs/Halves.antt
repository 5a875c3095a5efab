-- What the plain spelling has for the 16-bit words of a short block, and what the bytes after them are for.
use Rattle.std.specs.Prelude.{◌≡◌, ℕ, zero, suc, ◌+◌, ◌*◌, ◌==◌, Bool, true, false, not, List, [], ◌∷◌, if◌then◌else◌}
use Rattle.hunk_wide.specs.declared.position.FilePosition.{FilePosition}
use Rattle.hunk_wide.specs.declared.spot.Spot.{Spot}
use Rattle.hunk_wide.specs.declared.spot.Spot.TheVariants.{Passing, Long, Half, Filler}
use Rattle.hunk_wide.specs.declared.spot.ShortPart.{ShortPart}
use Rattle.hunk_wide.specs.declared.spot.ShortPart.TheVariants.{Count, Target, Offset}

-- A count of 0 ends the block, with another 0 where the last longword is not full.
abbrev pub behind_end : FilePosition → Bool → Spot
behind_end after true = Long after
behind_end after false = Filler after

abbrev pub behind_half : FilePosition → ShortPart → Bool → ℕ → Spot
behind_half after Count odd zero = behind_end after odd
behind_half after Count odd (suc owed) = Half after (Target owed) (not odd)
behind_half after (Target owed) odd h = Half after (Offset owed) (not odd)
behind_half after (Offset zero) odd h = Half after Count (not odd)
behind_half after (Offset (suc owed)) odd h = Half after (Offset owed) (not odd)

-- the number of two bytes, the high one first
abbrev pub half_of : ℕ → ℕ → ℕ
half_of a b = a * 256 + b

-- What fills up is 0. Else the block is given on as one that no load file has.
abbrev pub out_filler : ℕ → ℕ → List ℕ
out_filler a b = if half_of a b == 0 then [] else 0 ∷ 0 ∷ 3 ∷ 0xFC ∷ a ∷ b ∷ []

abbrev pub behind_filler : FilePosition → ℕ → ℕ → Spot
behind_filler after a b = if half_of a b == 0 then Long after else Passing

-- The 16-bit words of these bytes, each with 32 bits.
abbrev pub widened : List ℕ → List ℕ
widened (a ∷ b ∷ rest) = 0 ∷ 0 ∷ a ∷ b ∷ widened rest
widened _ = []

-- Whether the number of words is odd after so many more.
abbrev pub flipped : Bool → ℕ → Bool
flipped odd zero = odd
flipped odd (suc count) = flipped (not odd) count

-- how many words stand before the next count
abbrev pub words_to_count : ShortPart → ℕ
words_to_count Count = 0
words_to_count (Target owed) = owed + 2
words_to_count (Offset owed) = owed + 1

-- after so many of these
abbrev pub part_after : ℕ → ShortPart → ShortPart
part_after zero part = part
part_after (suc count) Count = Count
part_after (suc count) (Target owed) = part_after count (Offset owed)
part_after (suc count) (Offset zero) = Count
part_after (suc count) (Offset (suc owed)) = part_after count (Offset owed)

-- The bytes are words of a short block that begins or goes on here, and what is after them is for this.
abbrev pub HalvesLead : List ℕ → Spot → Spot → Type 0
HalvesLead [] s next = s ≡ next
HalvesLead (a ∷ b ∷ rest) (Half after part odd) next = HalvesLead rest (behind_half after part odd (half_of a b)) next
HalvesLead _ _ next = ⊥
