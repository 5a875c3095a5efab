-- What one longword, or one word of 16 bits, is given out as.
use Rattle.std.proofs.Common.{◌≡◌, ℕ, ◌+◌, ◌*◌, ◌/◌, ◌%◌, ◌^◌, ◌<◌, Bool, List, [], ◌∷◌, ◌++◌, ap, arith}
use Rattle.std.specs.Int.{to_be_bytes, w16, w32}
use Rattle.std.proofs.lemmas.Nat.{from_be_bytes-to_be_bytes_4}
use Rattle.hunk_wide.specs.declared.position.FilePosition.{FilePosition}
use Rattle.hunk_wide.specs.declared.spot.ShortPart.{ShortPart}
use Rattle.hunk_wide.specs.declared.spot.Spot.TheVariants.{Long, Half}
use Rattle.hunk_wide.specs.Halves.{behind_half}
use Rattle.hunk_wide.specs.Longwords.{behind_long, given, out_long}
use Rattle.hunk_wide.specs.Plain.{plain_from}

pub long_cells : (p : FilePosition) (w : ℕ) (more : List ℕ) → w < 2 ^ 32 →
    plain_from (Long p) (to_be_bytes w32 w ++ more) ≡ out_long (given p w) (to_be_bytes w32 w) w ++ plain_from (behind_long p w) more
unfolding plain_from
long_cells p w more fits =
    ap (λ (n : ℕ). out_long (given p n) (to_be_bytes w32 w) n ++ plain_from (behind_long p n) more) (from_be_bytes-to_be_bytes_4 w fits)

pub half_cells : (after : FilePosition) (part : ShortPart) (odd : Bool) (n : ℕ) (more : List ℕ) → n < 2 ^ 16 →
    plain_from (Half after part odd) (to_be_bytes w16 n ++ more) ≡ to_be_bytes w32 n ++ plain_from (behind_half after part odd n) more
unfolding plain_from
half_cells after part odd n more fits =
    let value : n / 256 % 256 * 256 + n % 256 ≡ n = omega arith in
    let first : 0 ≡ n / 16777216 % 256 = omega arith in
    let second : 0 ≡ n / 65536 % 256 = omega arith in
    λ i. (first i ∷ second i ∷ n / 256 % 256 ∷ n % 256 ∷ []) ++ plain_from (behind_half after part odd (value i)) more
