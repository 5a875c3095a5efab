-- The bytes that rows point at, and how many longwords they are.
use Rattle.std.proofs.Common.{◌≡◌, ◌+◌, ◌/◌, ◌∷◌, ◌++◌, [], ℕ, List, length, length-append, ap, ◌∙◌}
use Rattle.hunk_words.specs.Longs.{longs}
use Rattle.hunk_parts.specs.PartFaults.{PartSize}
use Rattle.hunk_words.proofs.LongLaws.{length-longs}

-- Three zero bytes more make a longword of a begun one.
pub padded_count : (bytes : List ℕ) → length (longs (bytes ++ 0 ∷ 0 ∷ 0 ∷ [])) ≡ (length bytes + 3) / 4
padded_count bytes = length-longs (bytes ++ 0 ∷ 0 ∷ 0 ∷ []) ∙ ap (λ (n : ℕ). n / 4) (length-append bytes (0 ∷ 0 ∷ 0 ∷ []))

abbrev pub part_size : ℕ → ℕ → ℕ → ℕ → ℕ → PartSize
part_size what word value content offsets = record { what = what; word = word; value = value; content = content; offsets = offsets }
