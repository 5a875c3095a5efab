-- Bytes that are given out as they are.
use Rattle.std.proofs.Common.{◌≡◌, ℕ, zero, suc, ◌+◌, ◌-◌, ◌*◌, ◌<◌, ◌≤◌, List, [], ◌∷◌, ◌++◌, length, take, drop, refl, sym, ap, subst, ◌∙◌, arith}
use Rattle.std.proofs.lemmas.List.{length-take, take-take}
use Rattle.std.specs.Int.{to_be_bytes, w32}
use Rattle.hunk_grammar.specs.declared.phase.Phase.{Phase}
use Rattle.hunk_grammar.specs.declared.phase.Phase.TheVariants as phases
use Rattle.hunk_grammar.specs.PhaseSteps as inside
use Rattle.hunk_grammar.specs.declared.position.OpenHunk.{OpenHunk}
use Rattle.hunk_grammar.specs.declared.position.Position.{Position}
use Rattle.hunk_wide.specs.declared.position.FilePosition.{FilePosition}
use Rattle.hunk_wide.specs.declared.position.FilePosition.TheVariants as files
use Rattle.hunk_grammar.specs.declared.position.Position.TheVariants as positions
use Rattle.hunk_grammar.specs.Positions.{step}
use Rattle.hunk_wide.specs.declared.spot.Spot.{Spot}
use Rattle.hunk_wide.specs.declared.spot.Spot.TheVariants.{Passing, Straight, Long, Half, Filler}
use Rattle.hunk_wide.specs.Longwords.{behind_straight, go_on}
use Rattle.hunk_wide.specs.{Held.{Held, left_of, straight_by, straight_of}, Plain.{GivesFor, plain_from}}

pub straight_gives : (owed : ℕ) (next : FilePosition) (bytes : List ℕ) → length bytes ≤ suc owed → GivesFor (Straight owed next) bytes bytes (behind_straight owed next (length bytes))
unfolding plain_from
straight_gives owed next [] h more = refl
straight_gives zero next (b ∷ []) h more = refl
straight_gives zero next (b ∷ c ∷ bytes) h more = absurd (omega arith)
straight_gives (suc owed) next (b ∷ bytes) h more = ap (λ (x : List ℕ). b ∷ x) (straight_gives owed next bytes (omega arith) more)

-- ---- by numbers

pub behind_some : (owed count : ℕ) (next : FilePosition) → count ≤ owed → behind_straight owed next count ≡ Straight (owed - count) next
behind_some owed zero next h = let e : owed ≡ owed - 0 = omega arith in ap (λ (n : ℕ). Straight n next) e
behind_some zero (suc count) next h = absurd (omega arith)
behind_some (suc owed) (suc count) next h =
    let e : owed - count ≡ suc owed - suc count = omega arith in
    behind_some owed count next (omega arith) ∙ ap (λ (n : ℕ). Straight n next) e

pub behind_all : (owed count : ℕ) (next : FilePosition) → count ≡ owed + 1 → behind_straight owed next count ≡ Long next
behind_all owed zero next h = absurd (omega arith)
behind_all zero (suc zero) next h = refl
behind_all zero (suc (suc count)) next h = absurd (omega arith)
behind_all (suc owed) (suc count) next h = behind_all owed count next (omega arith)

-- ---- longwords

pub four_more : (k a b c d : ℕ) (next : FilePosition) (more : List ℕ) → plain_from (Straight (4 * suc k + 3) next) (a ∷ b ∷ c ∷ d ∷ more) ≡ a ∷ b ∷ c ∷ d ∷ plain_from (Straight (4 * k + 3) next) more
unfolding plain_from
four_more k a b c d next more =
    let e : 4 * suc k + 3 ≡ suc (suc (suc (suc (4 * k + 3)))) = omega arith in
    ap (λ (n : ℕ). plain_from (Straight n next) (a ∷ b ∷ c ∷ d ∷ more)) e

abbrev Goes : Position → ℕ → List ℕ → Type 0
Goes p w more = plain_from (go_on (files.Load p)) (to_be_bytes w32 w ++ more) ≡ to_be_bytes w32 w ++ plain_from (go_on (files.Load (step p w))) more

content_goes : (o : OpenHunk) (longs owed w : ℕ) (more : List ℕ) → Goes (positions.Body o (phases.Content longs owed)) w more
unfolding plain_from
content_goes o longs zero w more = refl
content_goes o longs (suc k) w more = four_more k _ _ _ _ _ more

payload_goes : (o : OpenHunk) (owed w : ℕ) (more : List ℕ) → Goes (positions.Body o (phases.Payload owed)) w more
unfolding plain_from
payload_goes o zero w more = refl
payload_goes o (suc k) w more = four_more k _ _ _ _ _ more

symbol_goes : (o : OpenHunk) (owed w : ℕ) (more : List ℕ) → Goes (positions.Body o (phases.Symbol owed)) w more
unfolding plain_from
symbol_goes o zero w more = refl
symbol_goes o (suc k) w more = four_more k _ _ _ _ _ more

front_goes : (o : OpenHunk) (owed w : ℕ) (more : List ℕ) → Goes (positions.Body o (phases.ExtFront owed)) w more
unfolding plain_from
front_goes o zero w more = refl
front_goes o (suc k) w more = four_more k _ _ _ _ _ more

rest_goes : (o : OpenHunk) (owed w : ℕ) (more : List ℕ) → Goes (positions.Body o (phases.ExtRest owed)) w more
unfolding plain_from
rest_goes o zero w more = refl
rest_goes o (suc k) w more = four_more k _ _ _ _ _ more

offset_goes : (o : OpenHunk) (t owed w : ℕ) (more : List ℕ) → Goes (positions.Body o (phases.Offset t owed)) w more
unfolding plain_from
offset_goes o t zero w more = refl
offset_goes o t (suc k) w more = four_more k _ _ _ _ _ more

-- A longword that is given out as it is leads to the rest of them.
pub straight_goes : (o : OpenHunk) (phase : Phase) (w : ℕ) (more : List ℕ) → 0 < inside.longest_run phase → Goes (positions.Body o phase) w more
straight_goes o (phases.Content longs owed) w more h = content_goes o longs owed w more
straight_goes o (phases.Payload owed) w more h = payload_goes o owed w more
straight_goes o (phases.Symbol owed) w more h = symbol_goes o owed w more
straight_goes o (phases.ExtFront owed) w more h = front_goes o owed w more
straight_goes o (phases.ExtRest owed) w more h = rest_goes o owed w more
straight_goes o (phases.Offset t owed) w more h = offset_goes o t owed w more
straight_goes o _ w more h = absurd (omega arith)

-- ---- what is held

pub take_over : (n : ℕ) (bytes : List ℕ) → length bytes ≤ n → take n bytes ≡ bytes
take_over zero [] h = refl
take_over zero (b ∷ bytes) h = absurd (omega arith)
take_over (suc n) [] h = refl
take_over (suc n) (b ∷ bytes) h = ap (λ (x : List ℕ). b ∷ x) (take_over n bytes (omega arith))

straight_most : (ready : List ℕ) (spot : Spot) (begun bytes : List ℕ) → length (straight_by ready spot begun bytes) ≤ length bytes
straight_most [] Passing [] bytes = omega arith
straight_most [] (Straight owed next) [] bytes = omega (arith, length-take (suc owed) bytes)
straight_most [] Passing (b ∷ bs) bytes = omega arith
straight_most [] (Straight owed next) (b ∷ bs) bytes = omega arith
straight_most [] (Long p) begun bytes = omega arith
straight_most [] (Half after part odd) begun bytes = omega arith
straight_most [] (Filler after) begun bytes = omega arith
straight_most (x ∷ xs) spot begun bytes = omega arith

pub straight_fits : (h : Held) (bytes : List ℕ) → length (straight_of h bytes) ≤ length bytes
straight_fits h bytes = straight_most h.ready h.spot h.begun bytes

-- The first of them are the first of the bytes.
front_by : (ready : List ℕ) (spot : Spot) (begun bytes : List ℕ) (count : ℕ) → count ≤ length (straight_by ready spot begun bytes) → take count (straight_by ready spot begun bytes) ≡ take count bytes
front_by [] Passing [] bytes count h = refl
front_by [] (Straight owed next) [] bytes count h = take-take count (suc owed) bytes (omega (arith, length-take (suc owed) bytes))
front_by [] Passing (b ∷ bs) bytes zero h = refl
front_by [] (Straight owed next) (b ∷ bs) bytes zero h = refl
front_by [] (Long p) begun bytes zero h = refl
front_by [] (Half after part odd) begun bytes zero h = refl
front_by [] (Filler after) begun bytes zero h = refl
front_by (x ∷ xs) spot begun bytes zero h = refl
front_by [] Passing (b ∷ bs) bytes (suc n) h = absurd (omega arith)
front_by [] (Straight owed next) (b ∷ bs) bytes (suc n) h = absurd (omega arith)
front_by [] (Long p) begun bytes (suc n) h = absurd (omega arith)
front_by [] (Half after part odd) begun bytes (suc n) h = absurd (omega arith)
front_by [] (Filler after) begun bytes (suc n) h = absurd (omega arith)
front_by (x ∷ xs) spot begun bytes (suc n) h = absurd (omega arith)

pub straight_front : (h : Held) (bytes : List ℕ) (count : ℕ) → count ≤ length (straight_of h bytes) → take count (straight_of h bytes) ≡ take count bytes
straight_front h bytes count fits = front_by h.ready h.spot h.begun bytes count fits

-- ---- bytes that went out

zeros : ℕ → List ℕ
zeros zero = []
zeros (suc n) = 0 ∷ zeros n

zeros_long : (n : ℕ) → length (zeros n) ≡ n
unfolding zeros
zeros_long zero = refl
zeros_long (suc n) = ap suc (zeros_long n)

pub record InStraight (h : Held) (owed count : ℕ) : Type 0 where
  pub ready : h.ready ≡ []
  pub begun : h.begun ≡ []
  pub fits : count ≤ suc owed

in_by : (ready : List ℕ) (owed : ℕ) (next : FilePosition) (begun bytes : List ℕ) → 0 < length bytes → straight_by ready (Straight owed next) begun bytes ≡ bytes → InStraight (record { ready = ready; spot = Straight owed next; begun = begun }) owed (length bytes)
in_by [] owed next [] bytes some e = record { ready = refl; begun = refl; fits = omega (arith, length-take (suc owed) bytes, ap length e) }
in_by [] owed next (b ∷ bs) bytes some e = absurd (omega (arith, ap length e))
in_by (x ∷ xs) owed next begun bytes some e = absurd (omega (arith, ap length e))

-- Where bytes come that are given out so, what is held is nothing else.
pub in_straight : (h : Held) (ready begun : List ℕ) (owed : ℕ) (next : FilePosition) (count : ℕ) → record { ready = ready; spot = Straight owed next; begun = begun } ≡ h → (count ≡ 0 → ⊥)
    → ((bytes : List ℕ) → length bytes ≡ count → straight_of h bytes ≡ bytes) → InStraight (record { ready = ready; spot = Straight owed next; begun = begun }) owed count
in_straight h ready begun owed next count e some all =
    subst (λ (n : ℕ). InStraight (record { ready = ready; spot = Straight owed next; begun = begun }) owed n) (zeros_long count)
    (in_by ready owed next begun (zeros count) (omega (arith, zeros_long count))
    (subst (λ (k : Held). straight_of k (zeros count) ≡ zeros count) (sym e) (all (zeros count) (zeros_long count))))

pub pass_left : (ready begun bytes more : List ℕ) (owed : ℕ) (next : FilePosition) (t : Spot) → InStraight (record { ready = ready; spot = Straight owed next; begun = begun }) owed (length bytes) → t ≡ behind_straight owed next (length bytes)
    → ready ++ plain_from (Straight owed next) (begun ++ (bytes ++ more)) ≡ bytes ++ (ready ++ plain_from t (begun ++ more))
pass_left ready begun bytes more owed next t i b =
    (λ j. i.ready j ++ plain_from (Straight owed next) (i.begun j ++ (bytes ++ more)))
    ∙ straight_gives owed next bytes i.fits more
    ∙ sym (λ j. bytes ++ (i.ready j ++ plain_from (b j) (i.begun j ++ more)))

none_left : (n : ℕ) → drop {A = ℕ} n [] ≡ []
none_left zero = refl
none_left (suc n) = refl

pass_on : (owed count : ℕ) (next : FilePosition) (bytes : List ℕ) → count ≤ suc owed → straight_by [] (behind_straight owed next count) [] (drop count bytes) ≡ drop count (take (suc owed) bytes)
pass_on owed zero next bytes h = refl
pass_on zero (suc zero) next [] h = refl
pass_on zero (suc zero) next (b ∷ bytes) h = refl
pass_on zero (suc (suc count)) next bytes h = absurd (omega arith)
pass_on (suc owed) (suc count) next [] h =
    ap (straight_by [] (behind_straight owed next count) []) (sym (none_left count)) ∙ pass_on owed count next [] (omega arith) ∙ none_left count
pass_on (suc owed) (suc count) next (b ∷ bytes) h = pass_on owed count next bytes (omega arith)

pub pass_straight : (ready begun bytes : List ℕ) (owed count : ℕ) (next : FilePosition) (t : Spot) → InStraight (record { ready = ready; spot = Straight owed next; begun = begun }) owed count → t ≡ behind_straight owed next count
    → straight_by ready t begun (drop count bytes) ≡ drop count (straight_by ready (Straight owed next) begun bytes)
pass_straight ready begun bytes owed count next t i b =
    (λ j. straight_by (i.ready j) (b j) (i.begun j) (drop count bytes))
    ∙ pass_on owed count next bytes i.fits
    ∙ sym (λ j. drop count (straight_by (i.ready j) (Straight owed next) (i.begun j) bytes))

-- where all bytes pass
pub record IsPassing (h : Held) : Type 0 where
  pub ready : h.ready ≡ []
  pub spot : h.spot ≡ Passing
  pub begun : h.begun ≡ []

passing_by : (ready : List ℕ) (spot : Spot) (begun bytes : List ℕ) → ((owed : ℕ) (next : FilePosition) → spot ≡ Straight owed next → ⊥) → 0 < length bytes → straight_by ready spot begun bytes ≡ bytes → IsPassing (record { ready = ready; spot = spot; begun = begun })
passing_by [] Passing [] bytes not some e = record { ready = refl; spot = refl; begun = refl }
passing_by [] Passing (b ∷ bs) bytes not some e = absurd (omega (arith, ap length e))
passing_by [] (Straight owed next) begun bytes not some e = absurd (not owed next refl)
passing_by [] (Long p) begun bytes not some e = absurd (omega (arith, ap length e))
passing_by [] (Half after part odd) begun bytes not some e = absurd (omega (arith, ap length e))
passing_by [] (Filler after) begun bytes not some e = absurd (omega (arith, ap length e))
passing_by (x ∷ xs) spot begun bytes not some e = absurd (omega (arith, ap length e))

pub is_passing : (h : Held) (count : ℕ) → ((owed : ℕ) (next : FilePosition) → h.spot ≡ Straight owed next → ⊥) → (count ≡ 0 → ⊥) → ((bytes : List ℕ) → length bytes ≡ count → straight_of h bytes ≡ bytes) → IsPassing h
is_passing h count not some all = passing_by h.ready h.spot h.begun (zeros count) not (omega (arith, zeros_long count)) (all (zeros count) (zeros_long count))

pub passing_left : (h : Held) (bytes more : List ℕ) → IsPassing h → left_of h (bytes ++ more) ≡ bytes ++ left_of h more
unfolding plain_from
passing_left h bytes more i =
    (λ j. i.ready j ++ plain_from (i.spot j) (i.begun j ++ (bytes ++ more)))
    ∙ sym (λ j. bytes ++ (i.ready j ++ plain_from (i.spot j) (i.begun j ++ more)))

pub passing_straight : (h : Held) (bytes : List ℕ) (count : ℕ) → IsPassing h → straight_of h (drop count bytes) ≡ drop count (straight_of h bytes)
passing_straight h bytes count i =
    (λ j. straight_by (i.ready j) (i.spot j) (i.begun j) (drop count bytes))
    ∙ sym (λ j. drop count (straight_by (i.ready j) (i.spot j) (i.begun j) bytes))
