-- Places of the plain spelling in the input: behind its end, in order, and where nothing is spelled otherwise.
use Rattle.std.proofs.Common.{◌≡◌, ℕ, zero, suc, ◌+◌, ◌-◌, ◌<◌, ◌≤◌, Bool, true, false, cond, ltb, List, [], ◌∷◌, length, length-append, min, refl, ap, ◌∙◌, arith}
use Rattle.std.specs.Int.{from_be_bytes, w32}
use Rattle.std.proofs.lemmas.{Bool.{ltb-false, ltb-true, true≢false}}
use Rattle.hunk_grammar.specs.declared.position.Position.TheVariants as positions
use Rattle.hunk_wide.specs.declared.position.FilePosition.TheVariants as files
use Rattle.hunk_wide.specs.declared.spot.Spot.{Spot}
use Rattle.hunk_wide.specs.declared.spot.Spot.TheVariants.{Passing, Straight, Long, Half, Filler}
use Rattle.hunk_wide.specs.declared.spot.Given.{Given}
use Rattle.hunk_wide.specs.declared.spot.Given.TheVariants.{Same, BehindEnd, AsLong}
use Rattle.hunk_wide.specs.Halves.{behind_filler, behind_half, half_of, out_filler}
use Rattle.hunk_wide.specs.Longwords.{behind_long, given, out_long}
use Rattle.hunk_wide.specs.Places.{count_long, here_or, place_from, place_of}
use Rattle.hunk_wide.specs.Plain.{plain, plain_from}
use Rattle.hunk_wide.specs.Spellings.{counted, ends_from, ends_of, has_end, is_short, one_if, short_blocks_from, short_blocks_of}
use Rattle.hunk_wide.proofs.{Placing.out_length, Counted.{behind_out, in_short}}

-- ---- in the input, and behind the end

here_inside : (size count n later rest total : ℕ) → total ≡ size + rest → 0 < size → later ≤ rest → here_or size count n later ≤ total
here_inside size count n later rest total whole some h = go (ltb n count) refl
  where
    go : (b : Bool) → ltb n count ≡ b → cond b (n - (count - size)) (size + later) ≤ total
    go true e = omega (arith, ltb-true n count e, some, whole)
    go false e = omega (arith, h, whole)

here_behind : (size count n later rest total : ℕ) → total ≡ size + rest → count ≤ n → later ≡ rest → here_or size count n later ≡ total
here_behind size count n later rest total whole past h = go (ltb n count) refl
  where
    go : (b : Bool) → ltb n count ≡ b → cond b (n - (count - size)) (size + later) ≡ total
    go true e = absurd (omega (arith, ltb-true n count e, past))
    go false e = omega (arith, h, whole)

pub behind_from : (s : Spot) (bytes : List ℕ) (n : ℕ) → length (plain_from s bytes) ≤ n → place_from s bytes n ≡ length bytes
unfolding place_from plain_from
behind_from Passing bytes n h = omega (arith, h)
behind_from (Straight zero next) [] n h = omega (arith, h)
behind_from (Straight (suc owed) next) [] n h = omega (arith, h)
behind_from (Straight zero next) (b ∷ rest) n h = here_behind 1 1 n _ (length rest) (length (b ∷ rest)) (omega arith) (omega (arith, h)) (behind_from (Long next) rest (n - 1) (omega (arith, h)))
behind_from (Straight (suc owed) next) (b ∷ rest) n h = here_behind 1 1 n _ (length rest) (length (b ∷ rest)) (omega arith) (omega (arith, h)) (behind_from (Straight owed next) rest (n - 1) (omega (arith, h)))
behind_from (Long p) [] n h = omega arith
behind_from (Long p) (a ∷ []) n h = omega (arith, h)
behind_from (Long p) (a ∷ b ∷ []) n h = omega (arith, h)
behind_from (Long p) (a ∷ b ∷ c ∷ []) n h = omega (arith, h)
behind_from (Long p) (a ∷ b ∷ c ∷ d ∷ rest) n h =
    let w : ℕ = from_be_bytes w32 (a ∷ b ∷ c ∷ d ∷ []) in
    let out : List ℕ = out_long (given p w) (a ∷ b ∷ c ∷ d ∷ []) w in
    let some = length-append out (plain_from (behind_long p w) rest) in
    let count = out_length (given p w) a b c d w in
    here_behind 4 (count_long (given p w)) n _ (length rest) (length (a ∷ b ∷ c ∷ d ∷ rest)) (omega arith) (omega (arith, h, some, count)) (behind_from (behind_long p w) rest (n - count_long (given p w)) (omega (arith, h, some, count)))
behind_from (Half after part odd) [] n h = omega (arith, h)
behind_from (Half after part odd) (a ∷ []) n h = omega (arith, h)
behind_from (Half after part odd) (a ∷ b ∷ rest) n h =
    here_behind 2 4 n _ (length rest) (length (a ∷ b ∷ rest)) (omega arith) (omega (arith, h)) (behind_from (behind_half after part odd (half_of a b)) rest (n - 4) (omega (arith, h)))
behind_from (Filler after) [] n h = omega (arith, h)
behind_from (Filler after) (a ∷ []) n h = omega (arith, h)
behind_from (Filler after) (a ∷ b ∷ rest) n h =
    let some = length-append (out_filler a b) (plain_from (behind_filler after a b) rest) in
    here_behind 2 (length (out_filler a b)) n _ (length rest) (length (a ∷ b ∷ rest)) (omega arith) (omega (arith, h, some)) (behind_from (behind_filler after a b) rest (n - length (out_filler a b)) (omega (arith, h, some)))

pub inside_from : (s : Spot) (bytes : List ℕ) (n : ℕ) → place_from s bytes n ≤ length bytes
unfolding place_from
inside_from Passing bytes n = omega arith
inside_from (Straight zero next) [] n = omega arith
inside_from (Straight (suc owed) next) [] n = omega arith
inside_from (Straight zero next) (b ∷ rest) n = here_inside 1 1 n _ (length rest) (length (b ∷ rest)) (omega arith) (omega arith) (inside_from (Long next) rest (n - 1))
inside_from (Straight (suc owed) next) (b ∷ rest) n = here_inside 1 1 n _ (length rest) (length (b ∷ rest)) (omega arith) (omega arith) (inside_from (Straight owed next) rest (n - 1))
inside_from (Long p) [] n = omega arith
inside_from (Long p) (a ∷ []) n = omega arith
inside_from (Long p) (a ∷ b ∷ []) n = omega arith
inside_from (Long p) (a ∷ b ∷ c ∷ []) n = omega arith
inside_from (Long p) (a ∷ b ∷ c ∷ d ∷ rest) n = here_inside 4 _ n _ (length rest) (length (a ∷ b ∷ c ∷ d ∷ rest)) (omega arith) (omega arith) (inside_from _ rest (n - _))
inside_from (Half after part odd) [] n = omega arith
inside_from (Half after part odd) (a ∷ []) n = omega arith
inside_from (Half after part odd) (a ∷ b ∷ rest) n = here_inside 2 4 n _ (length rest) (length (a ∷ b ∷ rest)) (omega arith) (omega arith) (inside_from _ rest (n - 4))
inside_from (Filler after) [] n = omega arith
inside_from (Filler after) (a ∷ []) n = omega arith
inside_from (Filler after) (a ∷ b ∷ rest) n = here_inside 2 _ n _ (length rest) (length (a ∷ b ∷ rest)) (omega arith) (omega arith) (inside_from _ rest (n - _))

-- ---- in order

here_grows : (size count m n : ℕ) (later : ℕ → ℕ) → 0 < size → m ≤ n → ((i j : ℕ) → i ≤ j → later i ≤ later j) → here_or size count m (later (m - count)) ≤ here_or size count n (later (n - count))
here_grows size count m n later some less h = go (ltb m count) (ltb n count) refl refl
  where
    go : (x y : Bool) → ltb m count ≡ x → ltb n count ≡ y → cond x (m - (count - size)) (size + later (m - count)) ≤ cond y (n - (count - size)) (size + later (n - count))
    go true true e f = omega (arith, less)
    go true false e f = omega (arith, ltb-true m count e, some)
    go false true e f = absurd (omega (arith, ltb-false m count e, ltb-true n count f, less))
    go false false e f = omega (arith, h (m - count) (n - count) (omega (arith, less)))

pub grows_from : (s : Spot) (bytes : List ℕ) (m n : ℕ) → m ≤ n → place_from s bytes m ≤ place_from s bytes n
unfolding place_from
grows_from Passing bytes m n less = omega (arith, less)
grows_from (Straight zero next) [] m n less = omega (arith, less)
grows_from (Straight (suc owed) next) [] m n less = omega (arith, less)
grows_from (Straight zero next) (b ∷ rest) m n less = here_grows 1 1 m n (place_from (Long next) rest) (omega arith) less (grows_from (Long next) rest)
grows_from (Straight (suc owed) next) (b ∷ rest) m n less = here_grows 1 1 m n (place_from (Straight owed next) rest) (omega arith) less (grows_from (Straight owed next) rest)
grows_from (Long p) [] m n less = omega arith
grows_from (Long p) (a ∷ []) m n less = omega (arith, less)
grows_from (Long p) (a ∷ b ∷ []) m n less = omega (arith, less)
grows_from (Long p) (a ∷ b ∷ c ∷ []) m n less = omega (arith, less)
grows_from (Long p) (a ∷ b ∷ c ∷ d ∷ rest) m n less =
    let w : ℕ = from_be_bytes w32 (a ∷ b ∷ c ∷ d ∷ []) in
    here_grows 4 (count_long (given p w)) m n (place_from (behind_long p w) rest) (omega arith) less (grows_from (behind_long p w) rest)
grows_from (Half after part odd) [] m n less = omega arith
grows_from (Half after part odd) (a ∷ []) m n less = omega (arith, less)
grows_from (Half after part odd) (a ∷ b ∷ rest) m n less = here_grows 2 4 m n (place_from (behind_half after part odd (half_of a b)) rest) (omega arith) less (grows_from (behind_half after part odd (half_of a b)) rest)
grows_from (Filler after) [] m n less = omega arith
grows_from (Filler after) (a ∷ []) m n less = omega (arith, less)
grows_from (Filler after) (a ∷ b ∷ rest) m n less = here_grows 2 (length (out_filler a b)) m n (place_from (behind_filler after a b) rest) (omega arith) less (grows_from (behind_filler after a b) rest)

-- ---- where nothing is spelled otherwise

here_same : (size n later rest total : ℕ) → total ≡ size + rest → later ≡ min (n - size) rest → here_or size size n later ≡ min n total
here_same size n later rest total whole h = go (ltb n size) refl
  where
    go : (b : Bool) → ltb n size ≡ b → cond b (n - (size - size)) (size + later) ≡ min n total
    go true e = omega (arith, ltb-true n size e, whole)
    go false e = omega (arith, ltb-false n size e, h, whole)

given_same : (g : Given) (i j : ℕ) → one_if (is_short g) + i ≡ 0 → one_if (has_end g) + j ≡ 0 → (is_short g ≡ false) × (i ≡ 0) × (j ≡ 0) × (count_long g ≡ 4)
given_same Same i j short end = (refl, omega (arith, short), omega (arith, end), refl)
given_same BehindEnd i j short end = absurd (omega (arith, end))
given_same AsLong i j short end = absurd (omega (arith, short))

same_places : (s : Spot) (bytes : List ℕ) (n : ℕ) → in_short s ≡ false → short_blocks_from s bytes ≡ 0 → ends_from s bytes ≡ 0 → place_from s bytes n ≡ min n (length bytes)
unfolding place_from counted
same_places Passing bytes n out short end = refl
same_places (Straight zero next) [] n out short end = refl
same_places (Straight (suc owed) next) [] n out short end = refl
same_places (Straight zero next) (b ∷ rest) n out short end = here_same 1 n _ (length rest) (length (b ∷ rest)) (omega arith) (same_places (Long next) rest (n - 1) refl short end)
same_places (Straight (suc owed) next) (b ∷ rest) n out short end = here_same 1 n _ (length rest) (length (b ∷ rest)) (omega arith) (same_places (Straight owed next) rest (n - 1) refl short end)
same_places (Long p) [] n out short end = refl
same_places (Long p) (a ∷ []) n out short end = refl
same_places (Long p) (a ∷ b ∷ []) n out short end = refl
same_places (Long p) (a ∷ b ∷ c ∷ []) n out short end = refl
same_places (Long p) (a ∷ b ∷ c ∷ d ∷ rest) n out short end =
    let w : ℕ = from_be_bytes w32 (a ∷ b ∷ c ∷ d ∷ []) in
    let next : Spot = behind_long p w in
    let here = given_same (given p w) (short_blocks_from next rest) (ends_from next rest) short end in
    ap (λ (k : ℕ). here_or 4 k n (place_from next rest (n - k))) here.3 ∙ here_same 4 n _ (length rest) (length (a ∷ b ∷ c ∷ d ∷ rest)) (omega arith) (same_places next rest (n - 4) (behind_out p w here.0) here.1 here.2)
same_places (Half after part odd) bytes n out short end = absurd (true≢false out)
same_places (Filler after) bytes n out short end = absurd (true≢false out)

-- ---- from the start

pub place_inside : (bytes : List ℕ) (n : ℕ) → place_of bytes n ≤ length bytes
place_inside bytes n = inside_from (Long (files.Load positions.FirstLong)) bytes n

pub place_behind : (bytes : List ℕ) (n : ℕ) → length (plain bytes) ≤ n → place_of bytes n ≡ length bytes
place_behind bytes n h = behind_from (Long (files.Load positions.FirstLong)) bytes n h

pub place_grows : (bytes : List ℕ) (m n : ℕ) → m ≤ n → place_of bytes m ≤ place_of bytes n
place_grows bytes m n less = grows_from (Long (files.Load positions.FirstLong)) bytes m n less

pub place_same : (bytes : List ℕ) (n : ℕ) → short_blocks_of bytes ≡ 0 → ends_of bytes ≡ 0 → place_of bytes n ≡ min n (length bytes)
place_same bytes n short end = same_places (Long (files.Load positions.FirstLong)) bytes n refl short end
