-- The plain spelling, written into a buffer that it fills.
use Rattle.std.proofs.Common.{◌≡◌, ℕ, zero, suc, Bool, true, false, cond, eqb-true, ◌==◌, ◌+◌, ◌-◌, ◌<◌, ◌≤◌, List, [], ◌∷◌, ◌++◌, length, take, drop, length-append, refl, sym, ap, ◌∙◌, append_assoc, arith}
use Rattle.std.proofs.Math.Seq.{drop-append_seam}
use Rattle.std.proofs.lemmas.{List.{append-nil, drop-drop, length-drop, length-take, take_rest}, Slice.{take-put_mid}}
use borrow.Rule.Slice.PartMut.{post_of, put_mid}
use Rattle.hunk_wide.specs.declared.spot.Spot.{Spot}
use Rattle.hunk_wide.specs.declared.spot.Spot.TheVariants.{Passing, Straight, Long, Half, Filler}
use Rattle.std.specs.Int.{to_be_bytes, w32}
use Rattle.hunk_words.specs.Bits.{end_word}
use Rattle.hunk_wide.specs.{FileEnds.is_last, Held.{Held, left_of, wanted, wanted_by}, Plain.{plain_from}}
use Rattle.hunk_wide.proofs.{Straight.take_over, Stretches.front_more}

-- Where bytes are wanted, none is ready.
none_by : (ready : List ℕ) (spot : Spot) (begun : List ℕ) → 0 < wanted_by ready spot begun → ready ≡ []
none_by [] spot begun some = refl
none_by (x ∷ xs) spot begun some = absurd (omega arith)

pub none_ready : (h : Held) → 0 < wanted h → h.ready ≡ []
none_ready h some = none_by h.ready h.spot h.begun some

-- Where all bytes pass, they are what is left.
pub passing_rest : (h : Held) (bytes : List ℕ) → h.ready ≡ [] → h.spot ≡ Passing → h.begun ≡ [] → left_of h bytes ≡ bytes
unfolding plain_from
passing_rest h bytes ready spot begun = λ j. ready j ++ plain_from (spot j) (begun j ++ bytes)

-- a front of the same length
pub all_of : (xs ys zs : List ℕ) → xs ≡ ys ++ zs → length xs ≡ length ys → xs ≡ ys
all_of xs ys [] e l = e ∙ append-nil ys
all_of xs ys (z ∷ zs) e l = absurd (omega (arith, l, ap length e, length-append ys (z ∷ zs)))

passing_ready : (h : Held) → h.spot ≡ Passing → h.begun ≡ [] → left_of h [] ≡ h.ready
unfolding plain_from
passing_ready h spot begun = (λ j. h.ready ++ plain_from (spot j) (begun j ++ [])) ∙ append-nil h.ready

-- What is ready at the end of the input fills the buffer.
pub gave_all : (h after : Held) (buf : List ℕ) (n : ℕ) → h.spot ≡ Passing → h.begun ≡ [] → left_of h [] ≡ take n buf ++ left_of after [] → n ≡ length buf → length buf ≡ length h.ready → buf ≡ h.ready
gave_all h after buf n spot begun gives all len =
    let whole : take n buf ≡ buf = take_over n buf (omega (arith, all)) in
    let front : h.ready ≡ take n buf = all_of h.ready (take n buf) (left_of after []) (sym (passing_ready h spot begun) ∙ gives) (sym len ∙ sym (ap length whole)) in
    sym (front ∙ whole)

-- ---- behind a first part of the buffer

-- what is lent of it
pub part_length : (at : ℕ) (out : List ℕ) → length (take (length out - at) (drop at out)) ≡ length out - at
part_length at out = omega (arith, length-take (length out - at) (drop at out), length-drop at out)

pub put_length : (at : ℕ) (out new : List ℕ) → at ≤ length out → length new ≡ length out - at → length (put_mid at (length out - at) out new) ≡ length out
put_length at out new inside len =
    let post : List ℕ = post_of at (length out - at) out in
    let none : length post ≡ length (drop at out) - (length out - at) = length-drop (length out - at) (drop at out) in
    omega (
      arith,
      length-append (take at out) (new ++ post),
      length-append new post,
      length-take at out,
      length-drop at out,
      none,
      whole at out new,
    )
  where
    whole : (at : ℕ) (out new : List ℕ) → length (put_mid at (length out - at) out new) ≡ length (take at out ++ (new ++ post_of at (length out - at) out))
    whole at out new = refl

-- all of what is behind it
pub put_last : (at : ℕ) (out new : List ℕ) → at ≤ length out → length new ≡ length out - at → put_mid at (length out - at) out new ≡ take at out ++ new
put_last at out new inside len =
    sym (take_over (at + length new) (put_mid at (length out - at) out new) (omega (arith, put_length at out new inside len)))
    ∙ take-put_mid at (length out - at) out new (at + length new) refl inside

-- What stays behind a byte stays behind a later one.
pub same_behind : (at n : ℕ) (out first : List ℕ) → drop at out ≡ drop at first → drop (at + n) out ≡ drop (at + n) first
same_behind at n out first same = sym (drop-drop n at out) ∙ ap (drop n) same ∙ drop-drop n at first

-- what is behind the first bytes of it, where that stays as it was
pub put_behind : (at n : ℕ) (out new first : List ℕ) → at ≤ length out → length new ≡ length out - at → drop n new ≡ drop n (take (length out - at) (drop at out)) → drop at out ≡ drop at first
    → drop (at + n) (put_mid at (length out - at) out new) ≡ drop (at + n) first
put_behind at n out new first inside len stays same =
    let front : at ≡ length (take at out) = omega (arith, length-take at out, inside) in
    ap (drop (at + n)) (put_last at out new inside len)
    ∙ sym (drop-drop n at (take at out ++ new))
    ∙ ap (drop n) (ap (λ (k : ℕ). drop k (take at out ++ new)) front ∙ drop-append_seam (take at out) new)
    ∙ stays
    ∙ ap (drop n) (take_rest out at ∙ same)
    ∙ drop-drop n at first

-- some of it
pub put_more : (at n : ℕ) (out new : List ℕ) → at ≤ length out → n ≤ length new → take (at + n) (put_mid at (length out - at) out new) ≡ take at out ++ take n new
put_more at n out new inside room = front_more out new (post_of at (length out - at) out) at n inside room

-- What is given out goes behind what was.
pub gave_more : (at n : ℕ) (out new left later goal : List ℕ) → at ≤ length out → n ≤ length new → take at out ++ left ≡ goal → left ≡ take n new ++ later → take (at + n) (put_mid at (length out - at) out new) ++ later ≡ goal
gave_more at n out new left later goal inside room same gives =
    ap (λ (x : List ℕ). x ++ later) (put_more at n out new inside room)
    ∙ append_assoc (take at out) (take n new) later
    ∙ ap (λ (x : List ℕ). take at out ++ x) (sym gives)
    ∙ same

-- As many bytes are left as the buffer has room for.
pub room_left : (at : ℕ) (out left goal : List ℕ) → at ≤ length out → take at out ++ left ≡ goal → length out ≡ length goal → length left ≡ length out - at
room_left at out left goal inside same room = omega (arith, length-append (take at out) left, length-take at out, ap length same, room)

-- Where as many bytes are left as the buffer has room for, all that are ready go out.
pub none_held : (h : Held) (rest : List ℕ) (n room : ℕ) → length (left_of h rest) ≡ room - n → (n < room → h.ready ≡ []) → h.ready ≡ []
none_held h rest n room len fits = go h.ready refl
  where
    go : (xs : List ℕ) → h.ready ≡ xs → h.ready ≡ []
    go [] e = e
    go (x ∷ xs) e = fits (omega (arith, len, ap length e, length-append h.ready (plain_from h.spot (h.begun ++ rest))))

-- Nothing is left where no byte comes, and no END is put in.
pub none_left : (s : Spot) (bytes : List ℕ) → (length bytes == 0) ≡ true → is_last s ≡ false → plain_from s bytes ≡ []
unfolding plain_from
none_left s (b ∷ bytes) none e = absurd (omega (arith, eqb-true (length (b ∷ bytes)) 0 none))
none_left Passing [] none e = refl
none_left (Straight zero next) [] none e = refl
none_left (Straight (suc owed) next) [] none e = refl
none_left (Long p) [] none e = ap (λ (b : Bool). cond b (to_be_bytes w32 end_word) []) e
none_left (Half after part odd) [] none e = refl
none_left (Filler after) [] none e = refl
