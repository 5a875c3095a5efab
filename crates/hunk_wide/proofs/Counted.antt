-- What a wide spelling has otherwise than the plain one, in numbers.
use Rattle.std.proofs.Common.{◌≡◌, ℕ, zero, suc, ◌+◌, ◌*◌, ◌==◌, ◌<◌, ◌≤◌, Bool, true, false, cond, List, [], ◌∷◌, ◌++◌, length, take, drop, get_or, length-append, refl, sym, ap, ap₂, subst, ◌∙◌, arith}
use Rattle.std.specs.Int.{from_be_bytes, to_be_bytes, w32}
use Rattle.std.proofs.lemmas.{Bool.{eq-eqb, ne_eqb, true≢false}, List.{length-take, take-append-drop}}
use Rattle.hunk_words.specs.Bits.{end_word, header_word, unit_word}
use Rattle.hunk_grammar.specs.declared.phase.Phase.{Phase}
use Rattle.hunk_grammar.specs.declared.phase.Phase.TheVariants as phases
use Rattle.hunk_grammar.specs.declared.position.OpenHunk.{OpenHunk}
use Rattle.hunk_grammar.specs.declared.position.Position.TheVariants as positions
use Rattle.hunk_grammar.specs.declared.object_position.ObjectPosition.TheVariants as places
use Rattle.hunk_grammar.specs.declared.object_position.WordPlace.{WordPlace}
use Rattle.hunk_grammar.specs.ObjectPositions as object
use Rattle.hunk_grammar.specs.PhaseSteps as inside
use Rattle.hunk_grammar.specs.Positions.{close, step}
use Rattle.hunk_wide.specs.declared.position.FilePosition.{FilePosition}
use Rattle.hunk_wide.specs.declared.position.FilePosition.TheVariants as files
use Rattle.hunk_wide.specs.declared.spot.ShortPart.{ShortPart}
use Rattle.hunk_wide.specs.declared.spot.Spot.{Spot}
use Rattle.hunk_wide.specs.declared.spot.Spot.TheVariants.{Passing, Straight, Long, Half, Filler}
use Rattle.hunk_wide.specs.declared.spot.Given.{Given}
use Rattle.hunk_wide.specs.declared.spot.Given.TheVariants.{Same, BehindEnd, AsLong}
use Rattle.hunk_wide.specs.Places.{count_long}
use Rattle.hunk_wide.specs.FileEnds.{ends, ending}
use Rattle.hunk_wide.specs.Halves.{HalvesLead, behind_filler, behind_half, half_of, out_filler, widened}
use Rattle.hunk_wide.specs.Longwords.{behind_block, behind_long, behind_word, given, given_block, given_object, go_on, out_long, straight}
use Rattle.hunk_wide.specs.Plain.{plain, plain_from}
use Rattle.hunk_wide.specs.Spellings.{BeginsWith, EndsThere, counted, ends_from, ends_of, has_end, is_short, one_if, short_blocks_from, short_blocks_of}
use Rattle.hunk_wide.proofs.{ShortWords.{halves_give, widened_length}, Placing.{front_half, front_word, out_length}}

-- ---- the longest plain spelling

most_long : (g : Given) → count_long g ≤ 8
most_long Same = omega arith
most_long BehindEnd = omega arith
most_long AsLong = omega arith

ending_length : (p : FilePosition) → length (ending p) ≡ 4 * one_if (ends p)
ending_length p = go (ends p)
  where
    go : (b : Bool) → length (cond b (to_be_bytes w32 end_word) []) ≡ 4 * one_if b
    go true = refl
    go false = refl

one_most : (b : Bool) → one_if b ≤ 1
one_most true = omega arith
one_most false = omega arith

filler_length : (after : FilePosition) (a b : ℕ) (rest : List ℕ) → ((s : Spot) → length (plain_from s rest) ≤ 2 * length rest + 4)
    → length (plain_from Passing rest) ≡ length rest → length (out_filler a b ++ plain_from (behind_filler after a b) rest) ≤ 2 * (2 + length rest) + 4
filler_length after a b rest h passing = go (half_of a b == 0)
  where
    go : (x : Bool) → length (cond x [] (0 ∷ 0 ∷ 3 ∷ 0xFC ∷ a ∷ b ∷ []) ++ plain_from (cond x (Long after) Passing) rest) ≤ 2 * (2 + length rest) + 4
    go true = omega (arith, h (Long after))
    go false = omega (arith, passing)

-- from anywhere
longest : (s : Spot) (bytes : List ℕ) → length (plain_from s bytes) ≤ 2 * length bytes + 4
unfolding plain_from
longest Passing bytes = omega arith
longest (Straight zero next) (b ∷ rest) = omega (arith, longest (Long next) rest)
longest (Straight (suc owed) next) (b ∷ rest) = omega (arith, longest (Straight owed next) rest)
longest (Straight zero next) [] = omega arith
longest (Straight (suc owed) next) [] = omega arith
longest (Long p) [] = omega (arith, ending_length p, one_most (ends p))
longest (Long p) (a ∷ []) = omega arith
longest (Long p) (a ∷ b ∷ []) = omega arith
longest (Long p) (a ∷ b ∷ c ∷ []) = omega arith
longest (Long p) (a ∷ b ∷ c ∷ d ∷ rest) =
    let w : ℕ = from_be_bytes w32 (a ∷ b ∷ c ∷ d ∷ []) in
    let out : List ℕ = out_long (given p w) (a ∷ b ∷ c ∷ d ∷ []) w in
    omega (arith, length-append out (plain_from (behind_long p w) rest), out_length (given p w) a b c d w, most_long (given p w), longest (behind_long p w) rest)
longest (Half after part odd) [] = omega arith
longest (Half after part odd) (a ∷ []) = omega arith
longest (Half after part odd) (a ∷ b ∷ rest) = omega (arith, longest (behind_half after part odd (half_of a b)) rest)
longest (Filler after) [] = omega arith
longest (Filler after) (a ∷ []) = omega arith
longest (Filler after) (a ∷ b ∷ rest) = omega (arith, filler_length after a b rest (λ s. longest s rest) refl)

-- The plain spelling of an input has at most twice its bytes.
pub at_most_twice : (bytes : List ℕ) → length (plain bytes) ≤ 2 * length bytes
unfolding plain_from
at_most_twice [] = omega arith
at_most_twice (a ∷ []) = omega arith
at_most_twice (a ∷ b ∷ []) = omega arith
at_most_twice (a ∷ b ∷ c ∷ []) = omega arith
at_most_twice (a ∷ b ∷ c ∷ d ∷ rest) = let w : ℕ = from_be_bytes w32 (a ∷ b ∷ c ∷ d ∷ []) in omega (arith, longest (behind_long (files.Load positions.FirstLong) w) rest)

abbrev shorts : Given → ℕ
shorts g = one_if (is_short g)

abbrev at_no_end : FilePosition → ℕ
at_no_end p = 0

abbrev ends_before : Given → ℕ
ends_before g = one_if (has_end g)

abbrev ends_after : FilePosition → ℕ
ends_after p = one_if (ends p)

-- ---- units in front

few_counts : (g : Given) → one_if (is_short g) + one_if (has_end g) ≤ 4
few_counts Same = omega arith
few_counts BehindEnd = omega arith
few_counts AsLong = omega arith

pub long_begins : (p : FilePosition) (bytes : List ℕ) → 4 ≤ length bytes → BeginsWith (Long p) bytes 4 (count_long (given p (front_word bytes))) (one_if (is_short (given p (front_word bytes)))) (one_if (has_end (given p (front_word bytes)))) (behind_long p (front_word bytes))
unfolding plain_from counted
long_begins p (a ∷ b ∷ c ∷ d ∷ rest) whole =
    let w : ℕ = from_be_bytes w32 (a ∷ b ∷ c ∷ d ∷ []) in
    let out : List ℕ = out_long (given p w) (a ∷ b ∷ c ∷ d ∷ []) w in
    record {
      some = omega arith;
      whole = whole;
      few = few_counts (given p w);
      len = length-append out (plain_from (behind_long p w) rest) ∙ ap (λ (n : ℕ). n + length (plain_from (behind_long p w) rest)) (out_length (given p w) a b c d w);
      short_blocks = refl;
      count = refl;
    }
long_begins p _ whole = absurd (omega arith)

-- by other names of the numbers
pub counts_are : (s : Spot) (bytes : List ℕ) (size given given2 short short2 ends ends2 : ℕ) (next next2 : Spot) → given2 ≡ given → short2 ≡ short → ends2 ≡ ends → next2 ≡ next
    → BeginsWith s bytes size given short ends next → BeginsWith s bytes size given2 short2 ends2 next2
counts_are s bytes size given given2 short short2 ends ends2 next next2 g h e n b =
    subst (λ (x : ℕ). BeginsWith s bytes size x short2 ends2 next2) (sym g)
    (subst (λ (x : ℕ). BeginsWith s bytes size given x ends2 next2) (sym h)
    (subst (λ (x : ℕ). BeginsWith s bytes size given short x next2) (sym e) (subst (λ (x : Spot). BeginsWith s bytes size given short ends x) (sym n) b)))

filler_begins : (after : FilePosition) (bytes : List ℕ) → 2 ≤ length bytes
    → BeginsWith (Filler after) bytes 2 (length (out_filler (get_or bytes 0 0) (get_or bytes 1 0))) 0 0 (behind_filler after (get_or bytes 0 0) (get_or bytes 1 0))
unfolding plain_from counted
filler_begins after (a ∷ b ∷ rest) whole = record {
  some = omega arith;
  whole = whole;
  few = omega arith;
  len = length-append (out_filler a b) (plain_from (behind_filler after a b) rest);
  short_blocks = omega arith;
  count = omega arith;
}
filler_begins after _ whole = absurd (omega arith)

pub zero_begins : (after : FilePosition) (bytes : List ℕ) → 2 ≤ length bytes → front_half bytes ≡ 0 → BeginsWith (Filler after) bytes 2 0 0 0 (Long after)
zero_begins after bytes whole e =
    subst (λ (b : Bool). BeginsWith (Filler after) bytes 2 (length (cond b [] (0 ∷ 0 ∷ 3 ∷ 252 ∷ get_or bytes 0 0 ∷ get_or bytes 1 0 ∷ []))) 0 0 (cond b (Long after) Passing))
    (eq-eqb (front_half bytes) 0 e) (filler_begins after bytes whole)

pub other_begins : (after : FilePosition) (bytes : List ℕ) → 2 ≤ length bytes → (front_half bytes ≡ 0 → ⊥) → BeginsWith (Filler after) bytes 2 6 0 0 Passing
other_begins after bytes whole e =
    subst (λ (b : Bool). BeginsWith (Filler after) bytes 2 (length (cond b [] (0 ∷ 0 ∷ 3 ∷ 252 ∷ get_or bytes 0 0 ∷ get_or bytes 1 0 ∷ []))) 0 0 (cond b (Long after) Passing))
    (ne_eqb (front_half bytes) 0 e) (filler_begins after bytes whole)

straight_len : (owed : ℕ) (next : FilePosition) (bytes : List ℕ) → owed < length bytes → length (plain_from (Straight owed next) bytes) ≡ suc owed + length (plain_from (Long next) (drop (suc owed) bytes))
unfolding plain_from
straight_len owed next [] whole = absurd (omega arith)
straight_len zero next (b ∷ rest) whole = omega arith
straight_len (suc owed) next (b ∷ rest) whole = omega (arith, straight_len owed next rest (omega arith))

straight_counted : (f : Given → ℕ) (e : FilePosition → ℕ) (owed : ℕ) (next : FilePosition) (bytes : List ℕ) → owed < length bytes → counted f e (Straight owed next) bytes ≡ counted f e (Long next) (drop (suc owed) bytes)
unfolding counted
straight_counted f e owed next [] whole = absurd (omega arith)
straight_counted f e zero next (b ∷ rest) whole = refl
straight_counted f e (suc owed) next (b ∷ rest) whole = straight_counted f e owed next rest (omega arith)

pub straight_begins : (owed : ℕ) (next : FilePosition) (bytes : List ℕ) → owed < length bytes → BeginsWith (Straight owed next) bytes (suc owed) (suc owed) 0 0 (Long next)
straight_begins owed next bytes whole = record {
  some = omega arith;
  whole = omega arith;
  few = omega arith;
  len = straight_len owed next bytes whole;
  short_blocks = omega (arith, straight_counted shorts at_no_end owed next bytes whole);
  count = omega (arith, straight_counted ends_before ends_after owed next bytes whole);
}

halves_counted : (f : Given → ℕ) (e : FilePosition → ℕ) (front back : List ℕ) (s t : Spot) → HalvesLead front s t → counted f e s (front ++ back) ≡ counted f e t back
unfolding counted
halves_counted f e [] back s t h = ap (λ (x : Spot). counted f e x back) h
halves_counted f e (a ∷ b ∷ rest) back (Half after part odd) t h = halves_counted f e rest back (behind_half after part odd (half_of a b)) t h
halves_counted f e _ back _ t h = absurd h

pub halves_begin : (s t : Spot) (bytes : List ℕ) (count : ℕ) → 0 < count → 2 * count ≤ length bytes → HalvesLead (take (2 * count) bytes) s t → BeginsWith s bytes (2 * count) (4 * count) 0 0 t
halves_begin s t bytes count some whole h =
    let front : List ℕ = take (2 * count) bytes in
    let back : List ℕ = drop (2 * count) bytes in
    let all : front ++ back ≡ bytes = take-append-drop (2 * count) bytes in
    let long : length (plain_from s bytes) ≡ length (widened front ++ plain_from t back) =
    ap (λ (x : List ℕ). length (plain_from s x)) (sym all) ∙ ap length (halves_give front s t h back) in
    let shorts_same = ap (counted shorts at_no_end s) (sym all) ∙ halves_counted shorts at_no_end front back s t h in
    let ends_same = ap (counted ends_before ends_after s) (sym all) ∙ halves_counted ends_before ends_after front back s t h in
    record {
      some = omega arith;
      whole = whole;
      few = omega arith;
      len = omega (arith, long, length-append (widened front) (plain_from t back), widened_length front s t h, length-take (2 * count) bytes);
      short_blocks = omega (arith, shorts_same);
      count = omega (arith, ends_same);
    }

-- ---- no whole unit

pub passing_ends : (bytes : List ℕ) → EndsThere Passing bytes
unfolding plain_from counted
passing_ends [] = record { len = refl; short_blocks = refl; ends = refl }
passing_ends (b ∷ bytes) = record { len = omega arith; short_blocks = refl; ends = refl }

straight_few_len : (owed : ℕ) (next : FilePosition) (bytes : List ℕ) → length bytes ≤ owed → plain_from (Straight owed next) bytes ≡ bytes
unfolding plain_from
straight_few_len zero next [] few = refl
straight_few_len (suc owed) next [] few = refl
straight_few_len zero next (b ∷ bytes) few = absurd (omega arith)
straight_few_len (suc owed) next (b ∷ bytes) few = ap (λ (x : List ℕ). b ∷ x) (straight_few_len owed next bytes (omega arith))

straight_few_counted : (f : Given → ℕ) (e : FilePosition → ℕ) (owed : ℕ) (next : FilePosition) (bytes : List ℕ) → length bytes ≤ owed → counted f e (Straight owed next) bytes ≡ 0
unfolding counted
straight_few_counted f e zero next [] few = refl
straight_few_counted f e (suc owed) next [] few = refl
straight_few_counted f e zero next (b ∷ bytes) few = absurd (omega arith)
straight_few_counted f e (suc owed) next (b ∷ bytes) few = straight_few_counted f e owed next bytes (omega arith)

pub straight_ends : (owed : ℕ) (next : FilePosition) (bytes : List ℕ) → length bytes ≤ owed → EndsThere (Straight owed next) bytes
straight_ends owed next [] few = record {
  len = ap length (straight_few_len owed next [] few);
  short_blocks = straight_few_counted _ _ owed next [] few;
  ends = straight_few_counted _ _ owed next [] few;
}
straight_ends owed next (b ∷ bytes) few = record {
  len = omega (arith, ap length (straight_few_len owed next (b ∷ bytes) few));
  short_blocks = straight_few_counted _ _ owed next (b ∷ bytes) few;
  ends = straight_few_counted _ _ owed next (b ∷ bytes) few;
}

pub long_ends : (p : FilePosition) (bytes : List ℕ) → length bytes < 4 → EndsThere (Long p) bytes
unfolding plain_from counted
long_ends p [] few = record { len = omega (arith, ending_length p); short_blocks = refl; ends = refl }
long_ends p (a ∷ []) few = record { len = refl; short_blocks = refl; ends = refl }
long_ends p (a ∷ b ∷ []) few = record { len = refl; short_blocks = refl; ends = refl }
long_ends p (a ∷ b ∷ c ∷ []) few = record { len = refl; short_blocks = refl; ends = refl }
long_ends p (a ∷ b ∷ c ∷ d ∷ rest) few = absurd (omega arith)

pub half_ends : (after : FilePosition) (part : ShortPart) (odd : Bool) (bytes : List ℕ) → length bytes < 2 → EndsThere (Half after part odd) bytes
unfolding plain_from counted
half_ends after part odd [] few = record { len = refl; short_blocks = refl; ends = refl }
half_ends after part odd (a ∷ []) few = record { len = refl; short_blocks = refl; ends = refl }
half_ends after part odd (a ∷ b ∷ rest) few = absurd (omega arith)

pub filler_ends : (after : FilePosition) (bytes : List ℕ) → length bytes < 2 → EndsThere (Filler after) bytes
unfolding plain_from counted
filler_ends after [] few = record { len = refl; short_blocks = refl; ends = refl }
filler_ends after (a ∷ []) few = record { len = refl; short_blocks = refl; ends = refl }
filler_ends after (a ∷ b ∷ rest) few = absurd (omega arith)

-- ---- an input that is its own plain spelling

-- in a short block
abbrev pub in_short : Spot → Bool
in_short Passing = false
in_short (Straight owed next) = false
in_short (Long p) = false
in_short (Half after part odd) = true
in_short (Filler after) = true

straight_out : (n : ℕ) (here next : FilePosition) → in_short (straight n here next) ≡ false
straight_out zero here next = refl
straight_out (suc n) here next = refl

on_out : (p : FilePosition) → in_short (go_on p) ≡ false
on_out (files.Load positions.FirstLong) = refl
on_out (files.Load positions.ResidentName) = refl
on_out (files.Load positions.TableSize) = refl
on_out (files.Load (positions.FirstHunk hunks)) = refl
on_out (files.Load (positions.LastHunk hunks)) = refl
on_out (files.Load (positions.SizeWord hunks owed)) = refl
on_out (files.Load (positions.Attributes hunks word owed)) = refl
on_out (files.Load (positions.Body o phase)) = straight_out (inside.longest_run phase) _ _
on_out (files.Load positions.Done) = refl
on_out (files.Object p) = straight_out (object.run p) _ _

first_out : (w : ℕ) (b b2 : Bool) → in_short (cond b (go_on (files.Load (step positions.FirstLong w))) (cond b2 (go_on (files.Object places.UnitCount)) Passing)) ≡ false
first_out w true b2 = refl
first_out w false true = refl
first_out w false false = refl

block_out : (g : Given) (o : OpenHunk) (phase : Phase) (w : ℕ) → is_short g ≡ false → in_short (behind_block g o phase w) ≡ false
block_out Same o phase w e = on_out (files.Load (step (positions.Body o phase) w))
block_out BehindEnd o phase w e = on_out (files.Load (step (close o) w))
block_out AsLong o phase w e = absurd (true≢false e)

word_out : (g : Given) (place : WordPlace) (w : ℕ) → is_short g ≡ false → in_short (behind_word g place w) ≡ false
word_out Same place w e = on_out (files.Object (object.step (places.Word place) w))
word_out BehindEnd place w e = on_out (files.Object (object.step (places.Word place) w))
word_out AsLong place w e = absurd (true≢false e)

pub behind_out : (p : FilePosition) (w : ℕ) → is_short (given p w) ≡ false → in_short (behind_long p w) ≡ false
behind_out (files.Load positions.FirstLong) w e = first_out w (w == header_word) (w == unit_word)
behind_out (files.Load (positions.Body o phases.FirstBlock)) w e = block_out (given_block o w) o phases.FirstBlock w e
behind_out (files.Load (positions.Body o phases.BlockWord)) w e = block_out (given_block o w) o phases.BlockWord w e
behind_out (files.Load (positions.Body o phase)) w e = on_out (files.Load (step (positions.Body o phase) w))
behind_out (files.Load p) w e = on_out (files.Load (step p w))
behind_out (files.Object (places.Word place)) w e = word_out (given_object w) place w e
behind_out (files.Object p) w e = on_out (files.Object (object.step p w))

out_same : (g : Given) (cells : List ℕ) (w m n : ℕ) → one_if (is_short g) + m ≡ 0 → one_if (has_end g) + n ≡ 0 → (is_short g ≡ false) × (m ≡ 0) × (n ≡ 0) × (out_long g cells w ≡ cells)
out_same Same cells w m n short end = (refl, omega (arith, short), omega (arith, end), refl)
out_same BehindEnd cells w m n short end = absurd (omega (arith, end))
out_same AsLong cells w m n short end = absurd (omega (arith, short))

same_from : (s : Spot) (bytes : List ℕ) → in_short s ≡ false → short_blocks_from s bytes ≡ 0 → ends_from s bytes ≡ 0 → plain_from s bytes ≡ bytes
unfolding plain_from counted
same_from Passing bytes out short end = refl
same_from (Straight zero next) [] out short end = refl
same_from (Straight (suc owed) next) [] out short end = refl
same_from (Straight zero next) (b ∷ rest) out short end = ap (λ (x : List ℕ). b ∷ x) (same_from (Long next) rest refl short end)
same_from (Straight (suc owed) next) (b ∷ rest) out short end = ap (λ (x : List ℕ). b ∷ x) (same_from (Straight owed next) rest refl short end)
same_from (Long p) [] out short end = none_there (ends p) end
  where
    none_there : (b : Bool) → one_if b ≡ 0 → cond b (to_be_bytes w32 end_word) [] ≡ []
    none_there false e = refl
    none_there true e = absurd (omega (arith, e))
same_from (Long p) (a ∷ []) out short end = refl
same_from (Long p) (a ∷ b ∷ []) out short end = refl
same_from (Long p) (a ∷ b ∷ c ∷ []) out short end = refl
same_from (Long p) (a ∷ b ∷ c ∷ d ∷ rest) out short end =
    let w : ℕ = from_be_bytes w32 (a ∷ b ∷ c ∷ d ∷ []) in
    let next : Spot = behind_long p w in
    let here = out_same (given p w) (a ∷ b ∷ c ∷ d ∷ []) w (short_blocks_from next rest) (ends_from next rest) short end in
    ap₂ (λ (x y : List ℕ). x ++ y) here.3 (same_from next rest (behind_out p w here.0) here.1 here.2)
same_from (Half after part odd) bytes out short end = absurd (true≢false out)
same_from (Filler after) bytes out short end = absurd (true≢false out)

-- With no short block and no END put in, an input is its own plain spelling.
pub same_input : (bytes : List ℕ) → short_blocks_of bytes ≡ 0 → ends_of bytes ≡ 0 → plain bytes ≡ bytes
same_input bytes short end = same_from (Long (files.Load positions.FirstLong)) bytes refl short end
