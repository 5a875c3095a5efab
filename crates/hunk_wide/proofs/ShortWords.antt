-- Words of 16 bits of a short block, many at once.
use Rattle.std.proofs.Common.{◌≡◌, ℕ, zero, suc, ◌+◌, ◌-◌, ◌*◌, ◌/◌, ◌%◌, ◌<◌, ◌≤◌, Bool, true, false, not, List, [], ◌∷◌, ◌++◌, length, take, drop, get_or, refl, sym, ap, subst, ◌∙◌, arith}
use Rattle.std.specs.Int.{to_be_bytes, w32}
use Rattle.std.proofs.lemmas.List.{length-drop, length-take, take-append-drop, take-append-le}
use Rattle.hunk_wide.specs.declared.position.FilePosition.{FilePosition}
use Rattle.hunk_wide.specs.declared.spot.ShortPart.{ShortPart}
use Rattle.hunk_wide.specs.declared.spot.ShortPart.TheVariants.{Count, Target, Offset}
use Rattle.hunk_wide.specs.declared.spot.Spot.{Spot}
use Rattle.hunk_wide.specs.declared.spot.Spot.TheVariants.{Half}
use Rattle.hunk_wide.specs.Halves.{HalvesLead, behind_half, flipped, half_of, part_after, widened, words_to_count}
use Rattle.hunk_wide.specs.{InFile.{LeadsTo, spot_after}, Plain.{GivesFor, plain_from}}
use Rattle.hunk_wide.proofs.Cutting.{take_add}

-- ---- what comes after them, by numbers

not_not : (b : Bool) → not (not b) ≡ b
not_not true = refl
not_not false = refl

pub flipped_even : (odd : Bool) (count : ℕ) → count % 2 ≡ 0 → flipped odd count ≡ odd
flipped_even odd zero h = refl
flipped_even odd (suc zero) h = absurd (omega arith)
flipped_even odd (suc (suc count)) h = flipped_even (not (not odd)) count (omega arith) ∙ not_not odd

pub flipped_odd : (odd : Bool) (count : ℕ) → (count % 2 ≡ 0 → ⊥) → flipped odd count ≡ not odd
flipped_odd odd zero h = absurd (h refl)
flipped_odd odd (suc zero) h = refl
flipped_odd odd (suc (suc count)) h = flipped_odd (not (not odd)) count (λ e. h (omega arith)) ∙ ap not (not_not odd)

flipped_twice : (odd : Bool) (m n : ℕ) → flipped (flipped odd m) n ≡ flipped odd (m + n)
flipped_twice odd zero n = let e : n ≡ zero + n = omega arith in ap (flipped odd) e
flipped_twice odd (suc m) n = let e : suc (m + n) ≡ suc m + n = omega arith in flipped_twice (not odd) m n ∙ ap (flipped odd) e

flipped_once : (odd : Bool) (n : ℕ) → not (flipped odd n) ≡ flipped odd (n + 1)
flipped_once odd zero = refl
flipped_once odd (suc n) = let e : suc (n + 1) ≡ suc n + 1 = omega arith in flipped_once (not odd) n ∙ ap (flipped odd) e

pub after_all : (part : ShortPart) (count : ℕ) → count ≡ words_to_count part → part_after count part ≡ Count
after_all Count zero e = refl
after_all Count (suc count) e = absurd (omega (arith, e))
after_all (Target owed) zero e = absurd (omega (arith, e))
after_all (Target owed) (suc count) e = after_all (Offset owed) count (omega (arith, e))
after_all (Offset owed) zero e = absurd (omega (arith, e))
after_all (Offset zero) (suc count) e = refl
after_all (Offset (suc owed)) (suc count) e = after_all (Offset owed) count (omega (arith, e))

offsets_after : (owed count : ℕ) → count ≤ owed → part_after count (Offset owed) ≡ Offset (owed - count)
offsets_after owed zero few = let e : owed ≡ owed - 0 = omega arith in ap Offset e
offsets_after zero (suc count) few = absurd (omega arith)
offsets_after (suc owed) (suc count) few = let e : owed - count ≡ suc owed - suc count = omega arith in offsets_after owed count (omega arith) ∙ ap Offset e

pub after_some : (part : ShortPart) (count : ℕ) → 0 < count → count < words_to_count part → part_after count part ≡ Offset (words_to_count part - count - 1)
after_some part zero some few = absurd (omega arith)
after_some Count (suc count) some few = absurd (omega arith)
after_some (Target owed) (suc count) some few = let e : owed - count ≡ owed + 2 - suc count - 1 = omega arith in offsets_after owed count (omega arith) ∙ ap Offset e
after_some (Offset zero) (suc count) some few = absurd (omega arith)
after_some (Offset (suc owed)) (suc count) some few = let e : owed - count ≡ suc owed + 1 - suc count - 1 = omega arith in offsets_after owed count (omega arith) ∙ ap Offset e

-- ---- what they lead to

pub halves_give : (bytes : List ℕ) (s t : Spot) → HalvesLead bytes s t → GivesFor s bytes (widened bytes) t
unfolding plain_from
halves_give [] s t h more = ap (λ (x : Spot). plain_from x more) h
halves_give (a ∷ b ∷ rest) (Half after part odd) t h more = ap (λ (x : List ℕ). 0 ∷ 0 ∷ a ∷ b ∷ x) (halves_give rest (behind_half after part odd (half_of a b)) t h more)
halves_give _ _ t h more = absurd h

pub halves_lead : (bytes : List ℕ) (s t : Spot) → HalvesLead bytes s t → LeadsTo s bytes t
unfolding spot_after
halves_lead [] s t h more = ap (λ (x : Spot). spot_after x more) h
halves_lead (a ∷ b ∷ rest) (Half after part odd) t h more = halves_lead rest (behind_half after part odd (half_of a b)) t h more
halves_lead _ _ t h more = absurd h

two_halves : (front back : List ℕ) (s t u : Spot) → HalvesLead front s t → HalvesLead back t u → HalvesLead (front ++ back) s u
two_halves [] back s t u first second = subst (λ (x : Spot). HalvesLead back x u) (sym first) second
two_halves (a ∷ b ∷ rest) back (Half after part odd) t u first second = two_halves rest back (behind_half after part odd (half_of a b)) t u first second
two_halves _ back _ t u first second = absurd first

-- with the words after them that lie in the same bytes
more_halves : (bytes : List ℕ) (m n : ℕ) (s t u : Spot) → HalvesLead (take (2 * m) bytes) s t → HalvesLead (take (2 * n) (drop (2 * m) bytes)) t u → HalvesLead (take (2 * (m + n)) bytes) s u
more_halves bytes m n s t u first second =
    let sum : 2 * m + 2 * n ≡ 2 * (m + n) = omega arith in
    subst (λ (k : ℕ). HalvesLead (take k bytes) s u) sum
    (subst (λ (x : List ℕ). HalvesLead x s u) (sym (take_add (2 * m) (2 * n) bytes))
    (two_halves (take (2 * m) bytes) (take (2 * n) (drop (2 * m) bytes)) s t u first second))

-- those of which none is a count
passed : (after : FilePosition) (part : ShortPart) (odd : Bool) (count : ℕ) (bytes : List ℕ) → length bytes ≡ 2 * count → count ≤ words_to_count part
    → HalvesLead bytes (Half after part odd) (Half after (part_after count part) (flipped odd count))
passed after part odd zero [] l few = refl
passed after part odd zero (a ∷ bytes) l few = absurd (omega (arith, l))
passed after part odd (suc count) [] l few = absurd (omega (arith, l))
passed after part odd (suc count) (a ∷ []) l few = absurd (omega (arith, l))
passed after Count odd (suc count) (a ∷ b ∷ bytes) l few = absurd (omega arith)
passed after (Target owed) odd (suc count) (a ∷ b ∷ bytes) l few = passed after (Offset owed) (not odd) count bytes (omega (arith, l)) (omega arith)
passed after (Offset zero) odd (suc zero) (a ∷ b ∷ []) l few = refl
passed after (Offset zero) odd (suc zero) (a ∷ b ∷ c ∷ bytes) l few = absurd (omega (arith, l))
passed after (Offset zero) odd (suc (suc count)) (a ∷ b ∷ bytes) l few = absurd (omega arith)
passed after (Offset (suc owed)) odd (suc count) (a ∷ b ∷ bytes) l few = passed after (Offset owed) (not odd) count bytes (omega (arith, l)) (omega arith)

-- A group is passed up to here, from after its count.
pub pass_on : (after : FilePosition) (s : Spot) (part : ShortPart) (odd : Bool) (m n : ℕ) (bytes : List ℕ) → HalvesLead (take (2 * m) bytes) s (Half after part (flipped odd m)) → n ≤ words_to_count part → 2 * (m + n) ≤ length bytes
    → HalvesLead (take (2 * (m + n)) bytes) s (Half after (part_after n part) (flipped odd (m + n)))
pass_on after s part odd m n bytes h few whole =
    more_halves bytes m n s (Half after part (flipped odd m)) _ h
    (subst (λ (b : Bool). HalvesLead (take (2 * n) (drop (2 * m) bytes)) (Half after part (flipped odd m)) (Half after (part_after n part) b)) (flipped_twice odd m n)
    (passed after part (flipped odd m) n (take (2 * n) (drop (2 * m) bytes)) (omega (arith, length-take (2 * n) (drop (2 * m) bytes), length-drop (2 * m) bytes)) few))

-- up to the next count
to_count : (after : FilePosition) (s : Spot) (part : ShortPart) (odd : Bool) (m next : ℕ) (bytes : List ℕ) → HalvesLead (take (2 * m) bytes) s (Half after part (flipped odd m)) → next ≡ m + words_to_count part → 2 * next ≤ length bytes
    → HalvesLead (take (2 * next) bytes) s (Half after Count (flipped odd next))
to_count after s part odd m next bytes h e whole =
    subst (λ (k : ℕ). HalvesLead (take (2 * k) bytes) s (Half after Count (flipped odd k))) (sym e)
    (subst (λ (p : ShortPart). HalvesLead (take (2 * (m + words_to_count part)) bytes) s (Half after p (flipped odd (m + words_to_count part)))) (after_all part (words_to_count part) refl)
    (pass_on after s part odd m (words_to_count part) bytes h (omega arith) (omega (arith, e))))

one_there : (after : FilePosition) (part : ShortPart) (odd : Bool) (n : ℕ) (bytes : List ℕ) → n + 2 ≤ length bytes
    → HalvesLead (take 2 (drop n bytes)) (Half after part odd) (behind_half after part odd (half_of (get_or bytes n 0) (get_or bytes (n + 1) 0)))
one_there after part odd zero (a ∷ b ∷ bytes) whole = refl
one_there after part odd (suc n) (a ∷ bytes) whole =
    let e : suc (n + 1) ≡ suc n + 1 = omega arith in
    subst (λ (k : ℕ). HalvesLead (take 2 (drop n bytes)) (Half after part odd) (behind_half after part odd (half_of (get_or bytes n 0) (get_or (a ∷ bytes) k 0)))) e
    (one_there after part odd n bytes (omega arith))
one_there after part odd n [] whole = absurd (omega arith)
one_there after part odd zero (a ∷ []) whole = absurd (omega arith)

-- and past that count
pub past_count : (after : FilePosition) (s : Spot) (part : ShortPart) (odd : Bool) (m next h : ℕ) (bytes : List ℕ) → HalvesLead (take (2 * m) bytes) s (Half after part (flipped odd m)) → next ≡ m + words_to_count part
    → 2 * next + 2 ≤ length bytes → h ≡ half_of (get_or bytes (2 * next) 0) (get_or bytes (2 * next + 1) 0)
    → HalvesLead (take (2 * (next + 1)) bytes) s (behind_half after Count (flipped odd next) h)
past_count after s part odd m next h bytes leads e whole is =
    more_halves bytes next 1 s (Half after Count (flipped odd next)) _ (to_count after s part odd m next bytes leads e (omega arith))
    (subst (λ (k : ℕ). HalvesLead (take 2 (drop (2 * next) bytes)) (Half after Count (flipped odd next)) (behind_half after Count (flipped odd next) k)) (sym is)
    (one_there after Count (flipped odd next) (2 * next) bytes whole))

-- the part that comes after so many words: the given one, or the target of a group whose count is the last of them
abbrev pub begun_part : ShortPart → ℕ → ℕ → ShortPart
begun_part part zero owed = part
begun_part part (suc begun) owed = Target owed

pub begun_none : (part : ShortPart) (begun owed : ℕ) → begun ≡ 0 → part ≡ begun_part part begun owed
begun_none part zero owed e = refl
begun_none part (suc begun) owed e = absurd (omega (arith, e))

pub begun_some : (part : ShortPart) (begun owed : ℕ) → (begun ≡ 0 → ⊥) → Target owed ≡ begun_part part begun owed
begun_some part zero owed some = absurd (some refl)
begun_some part (suc begun) owed some = refl

pub begun_words : (part : ShortPart) (begun owed : ℕ) → (begun ≡ 0 → ⊥) → begun + owed + 2 ≡ begun + words_to_count (begun_part part begun owed)
begun_words part zero owed some = absurd (some refl)
begun_words part (suc begun) owed some = omega arith

-- where it is of a group
pub past_group : (after : FilePosition) (s : Spot) (part : ShortPart) (odd : Bool) (next h owed : ℕ) (bytes : List ℕ) → HalvesLead bytes s (behind_half after Count (flipped odd next) h) → h ≡ suc owed
    → HalvesLead bytes s (Half after (begun_part part (next + 1) owed) (flipped odd (next + 1)))
past_group after s part odd next h owed bytes leads e =
    subst (λ (p : ShortPart). HalvesLead bytes s (Half after p (flipped odd (next + 1)))) (begun_some part (next + 1) owed (λ z. omega (arith, z)))
    (subst (λ (b : Bool). HalvesLead bytes s (Half after (Target owed) b)) (flipped_once odd next)
    (subst (λ (k : ℕ). HalvesLead bytes s (behind_half after Count (flipped odd next) k)) e leads))

-- Where the next count does not lie in the bytes, all words are passed.
pub pass_rest : (after : FilePosition) (s t : Spot) (part : ShortPart) (odd : Bool) (m count : ℕ) (bytes : List ℕ) → HalvesLead (take (2 * m) bytes) s (Half after part (flipped odd m)) → m ≤ count → count ≤ m + words_to_count part
    → 2 * count ≤ length bytes → t ≡ Half after (part_after (count - m) part) (flipped odd count) → HalvesLead (take (2 * count) bytes) s t
pass_rest after s t part odd m count bytes h begun few whole e =
    let all : m + (count - m) ≡ count = omega arith in
    subst (λ (x : Spot). HalvesLead (take (2 * count) bytes) s x) (sym e)
    (subst (λ (k : ℕ). HalvesLead (take (2 * k) bytes) s (Half after (part_after (count - m) part) (flipped odd k))) all
    (pass_on after s part odd m (count - m) bytes h (omega arith) (omega arith)))

-- where they were looked for in the first bytes of a piece
pub short_take : (n most : ℕ) (piece : List ℕ) (s t : Spot) → HalvesLead (take n (take most piece)) s t → n ≤ length (take most piece) → HalvesLead (take n piece) s t
short_take n most piece s t h fits =
    subst (λ (x : List ℕ). HalvesLead (take n x) s t) (take-append-drop most piece)
    (subst (λ (x : List ℕ). HalvesLead x s t) (sym (take-append-le n (take most piece) (drop most piece) fits)) h)

-- ---- what is given out for them

pub widened_length : (bytes : List ℕ) (s t : Spot) → HalvesLead bytes s t → length (widened bytes) ≡ 2 * length bytes
widened_length [] s t h = refl
widened_length (a ∷ b ∷ rest) (Half after part odd) t h = let more = widened_length rest (behind_half after part odd (half_of a b)) t h in omega (arith, more)
widened_length _ _ t h = absurd h

-- Those at the front of a piece, where they are written at the front of a buffer.
pub halves_there : (s t : Spot) (bytes out : List ℕ) → HalvesLead bytes s t → out ≡ widened bytes → GivesFor s bytes out t
halves_there s t bytes out h e more = halves_give bytes s t h more ∙ ap (λ (x : List ℕ). x ++ plain_from t more) (sym e)

-- ---- one more that is widened

pub widened_more : (i : ℕ) (halves : List ℕ) → 2 * i + 2 ≤ length halves
    → widened (take (2 * (i + 1)) halves) ≡ widened (take (2 * i) halves) ++ 0 ∷ 0 ∷ get_or halves (2 * i) 0 ∷ get_or halves (2 * i + 1) 0 ∷ []
widened_more zero (a ∷ b ∷ halves) h = refl
widened_more (suc i) (a ∷ b ∷ halves) h =
    let more : 2 * (suc i + 1) ≡ suc (suc (2 * (i + 1))) = omega arith in
    let same : suc (suc (2 * i)) ≡ 2 * suc i = omega arith in
    let next : suc (suc (2 * i + 1)) ≡ 2 * suc i + 1 = omega arith in
    ap (λ (n : ℕ). widened (take n (a ∷ b ∷ halves))) more
    ∙ ap (λ (x : List ℕ). 0 ∷ 0 ∷ a ∷ b ∷ x) (widened_more i halves (omega arith))
    ∙ (λ j. widened (take (same j) (a ∷ b ∷ halves)) ++ 0 ∷ 0 ∷ get_or (a ∷ b ∷ halves) (same j) 0 ∷ get_or (a ∷ b ∷ halves) (next j) 0 ∷ [])
widened_more i [] h = absurd (omega arith)
widened_more i (a ∷ []) h = absurd (omega arith)

-- all of them
pub widened_all : (i : ℕ) (halves : List ℕ) → length halves / 2 ≡ i → widened (take (2 * i) halves) ≡ widened halves
widened_all zero [] h = refl
widened_all zero (a ∷ []) h = refl
widened_all zero (a ∷ b ∷ halves) h = absurd (omega arith)
widened_all (suc i) [] h = absurd (omega arith)
widened_all (suc i) (a ∷ []) h = absurd (omega arith)
widened_all (suc i) (a ∷ b ∷ halves) h =
    let more : 2 * suc i ≡ suc (suc (2 * i)) = omega arith in
    ap (λ (n : ℕ). widened (take n (a ∷ b ∷ halves))) more
    ∙ ap (λ (x : List ℕ). 0 ∷ 0 ∷ a ∷ b ∷ x) (widened_all i halves (omega arith))

-- ---- a word as a longword

pub half_as_long : (a b : ℕ) → a < 256 → b < 256 → to_be_bytes w32 (a * 256 + b) ≡ 0 ∷ 0 ∷ a ∷ b ∷ []
half_as_long a b high low =
    let first : (a * 256 + b) / 16777216 % 256 ≡ 0 = omega arith in
    let second : (a * 256 + b) / 65536 % 256 ≡ 0 = omega arith in
    let third : (a * 256 + b) / 256 % 256 ≡ a = omega arith in
    let fourth : (a * 256 + b) % 256 ≡ b = omega arith in
    λ j. first j ∷ second j ∷ third j ∷ fourth j ∷ []
