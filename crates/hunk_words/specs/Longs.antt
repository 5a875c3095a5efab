-- Longwords and their bytes.
use Rattle.std.specs.Prelude.{◌≡◌, ℕ, ◌^◌, ◌<◌, List, [], ◌∷◌, Option, None, Some, get_or}
use Rattle.std.specs.List.{AllByRecursion, flat_map}
use Rattle.std.specs.Int.{to_be_bytes, from_be_bytes, w32}

-- The numbers that successive groups of four bytes spell, high byte first. One to three bytes over are not in it.
abbrev pub longs : List ℕ → List ℕ
longs (a ∷ b ∷ c ∷ d ∷ rest) = from_be_bytes w32 (a ∷ b ∷ c ∷ d ∷ []) ∷ longs rest
longs _ = []

-- the bytes of the numbers, each high byte first
unfoldable pub bytes_of : List ℕ → List ℕ
bytes_of words = flat_map (to_be_bytes w32) words

abbrev pub IsBytes : List ℕ → Type 0
IsBytes bytes = (i : ℕ) → get_or bytes i 0 < 256

abbrev pub IsLong : ℕ → Type 0
IsLong n = n < 2 ^ 32

abbrev pub AreLongs : List ℕ → Type 0
AreLongs words = AllByRecursion IsLong words

-- The bytes are those of the longword given, where one is, and nothing is pending after it. Where none is given, they are pending.
abbrev pub Gathers : List ℕ → List ℕ → Option ℕ → Type 0
Gathers bytes pending None = pending ≡ bytes
Gathers bytes pending (Some word) = (bytes ≡ bytes_of (word ∷ [])) × (pending ≡ [])
