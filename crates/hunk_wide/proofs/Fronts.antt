-- What an input has otherwise than its plain spelling, where its front is given out as it is.
use Rattle.std.proofs.Common.{◌≡◌, ℕ, ◌+◌, ◌-◌, ◌*◌, ◌≤◌, List, ◌++◌, length, length-append, take, drop, sym, ap, ◌∙◌, arith}
use Rattle.std.proofs.lemmas.List.{length-take, take-append-drop, take_rest}
use Rattle.hunk_grammar.specs.declared.position.Position.TheVariants as positions
use Rattle.hunk_wide.specs.declared.position.FilePosition.{FilePosition}
use Rattle.hunk_wide.specs.declared.spot.Spot.{Spot}
use Rattle.hunk_wide.specs.declared.spot.Spot.TheVariants.{Passing, Long}
use Rattle.hunk_wide.specs.Parts.{AsIs, IsFileEnd, load_at}
use Rattle.hunk_wide.specs.Plain.{plain_from}
use Rattle.hunk_wide.specs.Spellings.{counted, ends_from, short_blocks_from}
use Rattle.hunk_wide.proofs.{AsIs.part_as_is, Counted.at_most_twice, Written.part_length}

-- what the bytes after the front have, where these are lent
pub front_counts : (s t : Spot) (bytes : List ℕ) (n : ℕ) → n ≤ length bytes → AsIs s (take n bytes) t
    → (length (plain_from s bytes) ≡ n + length (plain_from t (take (length bytes - n) (drop n bytes)))) × (short_blocks_from s bytes ≡ short_blocks_from t (take (length bytes - n) (drop n bytes)))
    × (ends_from s bytes ≡ ends_from t (take (length bytes - n) (drop n bytes)))
front_counts s t bytes n whole part = (
  omega (arith, ap (λ (x : List ℕ). length (plain_from s x)) all, ap length (part.gives rest), length-append (take n bytes) (plain_from t rest), length-take n bytes, whole),
  ap (short_blocks_from s) all ∙ part.short_blocks rest,
  ap (ends_from s) all ∙ part.ends rest,
)
  where
    rest : List ℕ
    rest = take (length bytes - n) (drop n bytes)

    all : bytes ≡ take n bytes ++ rest
    all = sym (take-append-drop n bytes) ∙ ap (λ (x : List ℕ). take n bytes ++ x) (sym (take_rest bytes n))

-- The plain spelling of a load file has at most twice the bytes of the input, so the front and what follows it have, too.
pub front_fits : (t : Spot) (bytes : List ℕ) (n : ℕ) → n ≤ length bytes → AsIs (load_at positions.FirstLong) (take n bytes) t → n + length (plain_from t (take (length bytes - n) (drop n bytes))) ≤ 2 * length bytes
front_fits t bytes n whole part = omega (arith, (front_counts (load_at positions.FirstLong) t bytes n whole part).0, at_most_twice bytes)

-- nothing, where the END of the file comes after the front
pub file_counts : (s : Spot) (p : FilePosition) (bytes : List ℕ) (n : ℕ) → n ≤ length bytes → AsIs s (take n bytes) (Long p) → IsFileEnd p (take (length bytes - n) (drop n bytes))
    → (length (plain_from s bytes) ≡ length bytes) × (short_blocks_from s bytes ≡ 0) × (ends_from s bytes ≡ 0)
unfolding plain_from counted
file_counts s p bytes n whole front end =
    let inside : n + 4 ≤ length bytes = omega (arith, end.whole, part_length n bytes) in
    let all = front_counts s Passing bytes (n + 4) inside (part_as_is s (Long p) Passing bytes n 4 front end.as_is) in
    (omega (arith, all.0, part_length (n + 4) bytes, inside), all.1, all.2)
