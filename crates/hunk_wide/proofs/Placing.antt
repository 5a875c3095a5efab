-- From which byte of a wide spelling a byte of the plain one comes.
use Rattle.std.proofs.Common.{◌≡◌, ℕ, zero, suc, ◌+◌, ◌-◌, ◌*◌, ◌/◌, ◌<◌, ◌≤◌, Bool, true, false, cond, ltb, List, [], ◌∷◌, ◌++◌, ◌⊎◌, inl, inr, length, take, drop, min, max, get_or, length-append, refl, sym, ap, subst, ◌∙◌, append_assoc, zero-add, arith}
use Rattle.std.specs.Int.{from_be_bytes, w32}
use Rattle.std.proofs.lemmas.{Bool.{eq-eqb, le-ltb, lt-ltb, ltb-false, ltb-true, ne_eqb}, List.{length-take, take-append-drop}}
use Rattle.hunk_wide.specs.declared.position.FilePosition.{FilePosition}
use Rattle.hunk_wide.specs.declared.spot.ShortPart.{ShortPart}
use Rattle.hunk_wide.specs.declared.spot.Spot.{Spot}
use Rattle.hunk_wide.specs.declared.spot.Spot.TheVariants.{Passing, Straight, Long, Half, Filler}
use Rattle.hunk_wide.specs.declared.spot.Given.{Given}
use Rattle.hunk_wide.specs.declared.spot.Given.TheVariants.{Same, BehindEnd, AsLong}
use Rattle.hunk_wide.specs.Places.{GoesBy, IsOfUnit, count_long, here_or, place_from}
use Rattle.hunk_wide.specs.Halves.{HalvesLead, behind_filler, behind_half, half_of, out_filler}
use Rattle.hunk_wide.specs.Longwords.{behind_long, given, out_long}
use Rattle.hunk_wide.specs.Plain.{plain_from}

-- ---- units in front

abbrev pub front_word : List ℕ → ℕ
front_word bytes = from_be_bytes w32 (get_or bytes 0 0 ∷ get_or bytes 1 0 ∷ get_or bytes 2 0 ∷ get_or bytes 3 0 ∷ [])

abbrev pub front_half : List ℕ → ℕ
front_half bytes = half_of (get_or bytes 0 0) (get_or bytes 1 0)

pub long_in_front : (p : FilePosition) (bytes : List ℕ) (n : ℕ) → 4 ≤ length bytes → GoesBy (Long p) bytes n 4 (count_long (given p (front_word bytes))) (behind_long p (front_word bytes))
unfolding place_from
long_in_front p (a ∷ b ∷ c ∷ d ∷ rest) n whole = record { some = omega arith; whole = whole; goes = refl }
long_in_front p _ n whole = absurd (omega arith)

-- ---- words of a short block

here_after : (size count n later : ℕ) → count ≤ n → here_or size count n later ≡ size + later
here_after size count n later past = ap (λ (b : Bool). cond b (n - (count - size)) (size + later)) (le-ltb n count past)

halves_past : (front back : List ℕ) (s t : Spot) (n : ℕ) → HalvesLead front s t → 2 * length front ≤ n → place_from s (front ++ back) n ≡ length front + place_from t back (n - 2 * length front)
unfolding place_from
halves_past [] back s t n h past = let none : n ≡ n - 2 * 0 = omega arith in ap (λ (x : Spot). place_from x back n) h ∙ ap (place_from t back) none ∙ sym (zero-add _)
halves_past (a ∷ b ∷ rest) back (Half after part odd) t n h past =
    let next : Spot = behind_half after part odd (half_of a b) in
    let more = halves_past rest back next t (n - 4) h (omega (arith, past)) in
    let less : n - 4 - 2 * length rest ≡ n - 2 * (length rest + 2) = omega arith in
    let long : length rest + 2 ≡ length (a ∷ b ∷ rest) = omega arith in
    let here = here_after 2 4 n (place_from next (rest ++ back) (n - 4)) (omega (arith, past)) in
    omega (arith, here, more, ap (place_from t back) (less ∙ ap (λ (k : ℕ). n - 2 * k) long))
halves_past _ back _ t n h past = absurd h

half_in_front : (s t : Spot) (bytes : List ℕ) (n : ℕ) → 2 ≤ length bytes → HalvesLead (take 2 bytes) s t → GoesBy s bytes n 2 4 t
unfolding place_from
half_in_front (Half after part odd) t (a ∷ b ∷ rest) n whole h = record { some = omega arith; whole = whole; goes = ap (λ (next : Spot). here_or 2 4 n (place_from next rest (n - 4))) h }
half_in_front _ t (a ∷ b ∷ rest) n whole h = absurd h
half_in_front _ t _ n whole h = absurd (omega arith)

-- all given out before byte n, or one
pub halves_in_front : (s t : Spot) (bytes : List ℕ) (n count words : ℕ) → 0 < count → count ≤ words → words ≤ max (n / 4) 1 → 2 * count ≤ length bytes → HalvesLead (take (2 * count) bytes) s t
    → GoesBy s bytes n (2 * count) (4 * count) t
halves_in_front s t bytes n count words some few most whole h = go (ltb 1 count) refl
  where
    front : List ℕ
    front = take (2 * count) bytes

    go : (b : Bool) → ltb 1 count ≡ b → GoesBy s bytes n (2 * count) (4 * count) t
    go false e =
        let one : 1 ≡ count = omega (arith, ltb-false 1 count e, some) in
        subst (λ (k : ℕ). GoesBy s bytes n (2 * k) (4 * k) t) one
        (half_in_front s t bytes n (omega (arith, whole, one)) (subst (λ (k : ℕ). HalvesLead (take (2 * k) bytes) s t) (sym one) h))
    go true e =
        let past : 4 * count ≤ n = omega (arith, ltb-true 1 count e, few, most) in
        let len : length front ≡ 2 * count = omega (arith, length-take (2 * count) bytes, whole) in
        let twice : n - 2 * length front ≡ n - 4 * count = omega (arith, len) in
        let all : place_from s (front ++ drop (2 * count) bytes) n ≡ length front + place_from t (drop (2 * count) bytes) (n - 2 * length front) =
        halves_past front (drop (2 * count) bytes) s t n h (omega (arith, len, past)) in
        record {
          some = omega (arith, some);
          whole = whole;
          goes =
              ap (λ (x : List ℕ). place_from s x n) (sym (take-append-drop (2 * count) bytes)) ∙ all
              ∙ ap (λ (k : ℕ). k + place_from t (drop (2 * count) bytes) (n - 2 * length front)) len
              ∙ ap (λ (k : ℕ). 2 * count + place_from t (drop (2 * count) bytes) k) twice
              ∙ sym (here_after (2 * count) (4 * count) n _ past);
        }

-- ---- the word that fills up

filler_in_front : (after : FilePosition) (bytes : List ℕ) (n : ℕ) → 2 ≤ length bytes
    → GoesBy (Filler after) bytes n 2 (length (out_filler (get_or bytes 0 0) (get_or bytes 1 0))) (behind_filler after (get_or bytes 0 0) (get_or bytes 1 0))
unfolding place_from
filler_in_front after (a ∷ b ∷ rest) n whole = record { some = omega arith; whole = whole; goes = refl }
filler_in_front after _ n whole = absurd (omega arith)

pub zero_in_front : (after : FilePosition) (bytes : List ℕ) (n : ℕ) → 2 ≤ length bytes → front_half bytes ≡ 0 → GoesBy (Filler after) bytes n 2 0 (Long after)
zero_in_front after bytes n whole e =
    subst (λ (b : Bool). GoesBy (Filler after) bytes n 2 (length (cond b [] (0 ∷ 0 ∷ 3 ∷ 252 ∷ get_or bytes 0 0 ∷ get_or bytes 1 0 ∷ []))) (cond b (Long after) Passing))
    (eq-eqb (front_half bytes) 0 e) (filler_in_front after bytes n whole)

pub other_in_front : (after : FilePosition) (bytes : List ℕ) (n : ℕ) → 2 ≤ length bytes → (front_half bytes ≡ 0 → ⊥) → GoesBy (Filler after) bytes n 2 6 Passing
other_in_front after bytes n whole e =
    subst (λ (b : Bool). GoesBy (Filler after) bytes n 2 (length (cond b [] (0 ∷ 0 ∷ 3 ∷ 252 ∷ get_or bytes 0 0 ∷ get_or bytes 1 0 ∷ []))) (cond b (Long after) Passing))
    (ne_eqb (front_half bytes) 0 e) (filler_in_front after bytes n whole)

here_past : (n later : ℕ) → 0 < n → here_or 1 1 n later ≡ 1 + later
here_past n later some = ap (λ (b : Bool). cond b (n - (1 - 1)) (1 + later)) (le-ltb n 1 (omega arith))

-- all of the bytes that are given out as they are
straight_place : (owed : ℕ) (next : FilePosition) (bytes : List ℕ) (n : ℕ) → owed < n → owed < length bytes
    → place_from (Straight owed next) bytes n ≡ suc owed + place_from (Long next) (drop (suc owed) bytes) (n - suc owed)
unfolding place_from
straight_place owed next [] n past whole = absurd (omega arith)
straight_place zero next (b ∷ rest) n past whole = here_past n _ past
straight_place (suc owed) next (b ∷ rest) n past whole =
    let less : n - 1 - suc owed ≡ n - suc (suc owed) = omega arith in
    let one : place_from (Straight (suc owed) next) (b ∷ rest) n ≡ 1 + place_from (Straight owed next) rest (n - 1) = here_past n _ (omega arith) in
    let more = straight_place owed next rest (n - 1) (omega arith) (omega arith) in
    let same = ap (place_from (Long next) (drop (suc owed) rest)) less in
    omega (arith, one, more, same)

pub straight_in_front : (owed : ℕ) (next : FilePosition) (bytes : List ℕ) (n : ℕ) → owed < n → owed < length bytes → GoesBy (Straight owed next) bytes n (suc owed) (suc owed) (Long next)
straight_in_front owed next bytes n past whole = record {
  some = omega arith;
  whole = omega arith;
  goes =
      straight_place owed next bytes n past whole
      ∙ sym (ap (λ (b : Bool). cond b (n - (suc owed - suc owed)) (suc owed + place_from (Long next) (drop (suc owed) bytes) (n - suc owed))) (le-ltb n (suc owed) (omega arith)));
}

-- ---- no whole unit

pub long_few : (p : FilePosition) (bytes : List ℕ) (n : ℕ) → length bytes < 4 → place_from (Long p) bytes n ≡ min n (length bytes)
unfolding place_from
long_few p [] n few = refl
long_few p (a ∷ []) n few = refl
long_few p (a ∷ b ∷ []) n few = refl
long_few p (a ∷ b ∷ c ∷ []) n few = refl
long_few p (a ∷ b ∷ c ∷ d ∷ rest) n few = absurd (omega arith)

pub half_few : (after : FilePosition) (part : ShortPart) (odd : Bool) (bytes : List ℕ) (n : ℕ) → length bytes < 2 → place_from (Half after part odd) bytes n ≡ min n (length bytes)
unfolding place_from
half_few after part odd [] n few = refl
half_few after part odd (a ∷ []) n few = refl
half_few after part odd (a ∷ b ∷ rest) n few = absurd (omega arith)

pub filler_few : (after : FilePosition) (bytes : List ℕ) (n : ℕ) → length bytes < 2 → place_from (Filler after) bytes n ≡ min n (length bytes)
unfolding place_from
filler_few after [] n few = refl
filler_few after (a ∷ []) n few = refl
filler_few after (a ∷ b ∷ rest) n few = absurd (omega arith)

-- a byte in them, or where they are not whole
pub straight_few : (owed : ℕ) (next : FilePosition) (bytes : List ℕ) (n : ℕ) → (n ≤ owed) ⊎ (length bytes ≤ owed) → place_from (Straight owed next) bytes n ≡ min n (length bytes)
unfolding place_from
straight_few zero next [] n few = omega arith
straight_few (suc owed) next [] n few = omega arith
straight_few zero next (b ∷ rest) zero few = omega arith
straight_few (suc owed) next (b ∷ rest) zero few = omega arith
straight_few zero next (b ∷ rest) (suc n) (inl few) = absurd (omega arith)
straight_few zero next (b ∷ rest) (suc n) (inr few) = absurd (omega arith)
straight_few (suc owed) next (b ∷ rest) (suc n) few =
    let one : place_from (Straight (suc owed) next) (b ∷ rest) (suc n) ≡ 1 + place_from (Straight owed next) rest (suc n - 1) = here_past (suc n) _ (omega arith) in
    omega (arith, one, straight_few owed next rest (suc n - 1) (less few))
  where
    less : (suc n ≤ suc owed) ⊎ (length (b ∷ rest) ≤ suc owed) → (suc n - 1 ≤ owed) ⊎ (length rest ≤ owed)
    less (inl h) = inl (omega arith)
    less (inr h) = inr (omega arith)

pub passing_place : (bytes : List ℕ) (n : ℕ) → place_from Passing bytes n ≡ min n (length bytes)
unfolding place_from
passing_place bytes n = refl

-- ---- the unit that it is in

starts : (s : Spot) (bytes : List ℕ) (n at : ℕ) → at ≤ 3 → IsOfUnit s bytes n at
starts s bytes n at few = record {
  start = 0;
  front = record { given = []; spot = s; front = λ more. refl; most = omega arith };
  after = omega arith;
  near = omega arith;
}

-- No unit is whole.
cut_off : (s : Spot) (bytes : List ℕ) (n : ℕ) → length bytes ≤ 3 → IsOfUnit s bytes n (min n (length bytes))
cut_off s bytes n few = starts s bytes n (min n (length bytes)) (omega arith)

unit_comes : (s next : Spot) (bytes rest cells out : List ℕ) (size count n later : ℕ) → 0 < size → size ≤ 4 → ((k : ℕ) → take (size + k) bytes ≡ cells ++ take k rest)
    → ((more : List ℕ) → plain_from s (cells ++ more) ≡ out ++ plain_from next more) → length out ≡ count → IsOfUnit next rest (n - count) later → IsOfUnit s bytes n (here_or size count n later)
unit_comes s next bytes rest cells out size count n later some most cut through len r = go (ltb n count) refl
  where
    go : (b : Bool) → ltb n count ≡ b → IsOfUnit s bytes n (cond b (n - (count - size)) (size + later))
    go true e = starts s bytes n (n - (count - size)) (omega (arith, ltb-true n count e, some, most))
    go false e = record {
      start = size + r.start;
      front = record {
        given = out ++ r.front.given;
        spot = r.front.spot;
        front = λ more.
            ap (λ (x : List ℕ). plain_from s (x ++ more)) (cut r.start) ∙ ap (plain_from s) (append_assoc cells (take r.start rest) more)
            ∙ through (take r.start rest ++ more) ∙ ap (λ (x : List ℕ). out ++ x) (r.front.front more) ∙ sym (append_assoc out r.front.given (plain_from r.front.spot more));
        most = omega (arith, length-append out r.front.given, len, r.front.most, ltb-false n count e);
      };
      after = omega (arith, r.after);
      near = omega (arith, r.near);
    }

four : (a b c d : ℕ) (rest : List ℕ) (k : ℕ) → take (4 + k) (a ∷ b ∷ c ∷ d ∷ rest) ≡ (a ∷ b ∷ c ∷ d ∷ []) ++ take k rest
four a b c d rest k = let e : 4 + k ≡ suc (suc (suc (suc k))) = omega arith in ap (λ (m : ℕ). take m (a ∷ b ∷ c ∷ d ∷ rest)) e

one : (b : ℕ) (rest : List ℕ) (k : ℕ) → take (1 + k) (b ∷ rest) ≡ (b ∷ []) ++ take k rest
one b rest k = let e : 1 + k ≡ suc k = omega arith in ap (λ (m : ℕ). take m (b ∷ rest)) e

two : (a b : ℕ) (rest : List ℕ) (k : ℕ) → take (2 + k) (a ∷ b ∷ rest) ≡ (a ∷ b ∷ []) ++ take k rest
two a b rest k = let e : 2 + k ≡ suc (suc k) = omega arith in ap (λ (m : ℕ). take m (a ∷ b ∷ rest)) e

pub out_length : (g : Given) (a b c d w : ℕ) → length (out_long g (a ∷ b ∷ c ∷ d ∷ []) w) ≡ count_long g
out_length Same a b c d w = refl
out_length BehindEnd a b c d w = refl
out_length AsLong a b c d w = refl

pub of_unit : (s : Spot) (bytes : List ℕ) (n : ℕ) → IsOfUnit s bytes n (place_from s bytes n)
unfolding place_from plain_from
of_unit Passing bytes n = record {
  start = min n (length bytes);
  front = record { given = take (min n (length bytes)) bytes; spot = Passing; front = λ more. refl; most = omega (arith, length-take (min n (length bytes)) bytes) };
  after = omega arith;
  near = omega arith;
}
of_unit (Straight zero next) (b ∷ rest) n =
    unit_comes (Straight zero next) (Long next) (b ∷ rest) rest (b ∷ []) (b ∷ []) 1 1 n _ (omega arith) (omega arith) (one b rest) (λ more. refl) refl (of_unit (Long next) rest (n - 1))
of_unit (Straight (suc owed) next) (b ∷ rest) n =
    unit_comes (Straight (suc owed) next) (Straight owed next) (b ∷ rest) rest (b ∷ []) (b ∷ []) 1 1 n _ (omega arith) (omega arith) (one b rest) (λ more. refl) refl (of_unit (Straight owed next) rest (n - 1))
of_unit (Straight zero next) [] n = cut_off (Straight zero next) [] n (omega arith)
of_unit (Straight (suc owed) next) [] n = cut_off (Straight (suc owed) next) [] n (omega arith)
of_unit (Long p) (a ∷ b ∷ c ∷ d ∷ rest) n =
    let w : ℕ = from_be_bytes w32 (a ∷ b ∷ c ∷ d ∷ []) in
    unit_comes (Long p) (behind_long p w) (a ∷ b ∷ c ∷ d ∷ rest) rest (a ∷ b ∷ c ∷ d ∷ []) (out_long (given p w) (a ∷ b ∷ c ∷ d ∷ []) w) 4 (count_long (given p w)) n _
    (omega arith) (omega arith) (four a b c d rest) (λ more. refl) (out_length (given p w) a b c d w) (of_unit (behind_long p w) rest (n - count_long (given p w)))
of_unit (Half after part odd) (a ∷ b ∷ rest) n =
    unit_comes (Half after part odd) (behind_half after part odd (half_of a b)) (a ∷ b ∷ rest) rest (a ∷ b ∷ []) (0 ∷ 0 ∷ a ∷ b ∷ []) 2 4 n _
    (omega arith) (omega arith) (two a b rest) (λ more. refl) refl (of_unit (behind_half after part odd (half_of a b)) rest (n - 4))
of_unit (Filler after) (a ∷ b ∷ rest) n =
    unit_comes (Filler after) (behind_filler after a b) (a ∷ b ∷ rest) rest (a ∷ b ∷ []) (out_filler a b) 2 (length (out_filler a b)) n _
    (omega arith) (omega arith) (two a b rest) (λ more. refl) refl (of_unit (behind_filler after a b) rest (n - length (out_filler a b)))
of_unit (Long p) [] n = cut_off (Long p) [] n (omega arith)
of_unit (Long p) (a ∷ []) n = cut_off (Long p) (a ∷ []) n (omega arith)
of_unit (Long p) (a ∷ b ∷ []) n = cut_off (Long p) (a ∷ b ∷ []) n (omega arith)
of_unit (Long p) (a ∷ b ∷ c ∷ []) n = cut_off (Long p) (a ∷ b ∷ c ∷ []) n (omega arith)
of_unit (Half after part odd) [] n = cut_off (Half after part odd) [] n (omega arith)
of_unit (Half after part odd) (a ∷ []) n = cut_off (Half after part odd) (a ∷ []) n (omega arith)
of_unit (Filler after) [] n = cut_off (Filler after) [] n (omega arith)
of_unit (Filler after) (a ∷ []) n = cut_off (Filler after) (a ∷ []) n (omega arith)

pub stops_here : (first at owed size count : ℕ) (s next : Spot) (rest : List ℕ) → first ≡ at + place_from s rest owed → GoesBy s rest owed size count next → owed < count
    → first ≡ at + (owed - (count - size))
stops_here first at owed size count s next rest e g less =
    let here : place_from s rest owed ≡ owed - (count - size) =
    g.goes ∙ ap (λ (b : Bool). cond b (owed - (count - size)) (size + place_from next (drop size rest) (owed - count))) (lt-ltb owed count less) in
    omega (arith, e, here)
