-- Stretches of bytes that are given out, one after the other.
use Rattle.std.proofs.Common.{◌≡◌, ℕ, suc, ◌+◌, ◌≤◌, Bool, cond, List, [], ◌∷◌, ◌++◌, length, take, drop, get_or, refl, sym, ap, ap₂, subst, ◌∙◌, append_assoc, arith}
use Rattle.std.specs.Int.{from_be_bytes, w32}
use Rattle.std.proofs.lemmas.{Bool.{eq-eqb, ne_eqb}, List.{length-take, take-append-le}}
use Rattle.std.proofs.Math.Seq.{drop-append_seam, take-append_seam}
use Rattle.hunk_wide.specs.declared.position.FilePosition.{FilePosition}
use Rattle.hunk_wide.specs.declared.spot.Given.{Given}
use Rattle.hunk_wide.specs.declared.spot.Spot.{Spot}
use Rattle.hunk_wide.specs.declared.spot.Spot.TheVariants.{Passing, Straight, Long, Filler}
use Rattle.hunk_wide.specs.{Halves.{half_of}, Longwords.{behind_long, behind_straight, given, out_long}, Plain.{GivesFor, plain_from}}
use Rattle.hunk_wide.proofs.{Cutting.take_add, Straight.straight_gives}

pub two_give : (s t u : Spot) (front back given more_given : List ℕ) → GivesFor s front given t → GivesFor t back more_given u → GivesFor s (front ++ back) (given ++ more_given) u
two_give s t u front back given more_given first second more =
    ap (plain_from s) (append_assoc front back more)
    ∙ first (back ++ more)
    ∙ ap (λ (x : List ℕ). given ++ x) (second more)
    ∙ sym (append_assoc given more_given (plain_from u more))

-- the first part of a buffer, and then a part of what is written behind it
pub front_more : (buf new post : List ℕ) (given more_given : ℕ) → given ≤ length buf → more_given ≤ length new → take (given + more_given) (take given buf ++ (new ++ post)) ≡ take given buf ++ take more_given new
front_more buf new post given more_given fits room =
    let len : length (take given buf) ≡ given = omega (arith, length-take given buf) in
    take_add given more_given (take given buf ++ (new ++ post))
    ∙ ap₂ (λ (x y : List ℕ). x ++ take more_given y)
    (ap (λ (n : ℕ). take n (take given buf ++ (new ++ post))) (sym len) ∙ take-append_seam (take given buf) (new ++ post))
    (ap (λ (n : ℕ). drop n (take given buf ++ (new ++ post))) (sym len) ∙ drop-append_seam (take given buf) (new ++ post))
    ∙ ap (λ (x : List ℕ). take given buf ++ x) (take-append-le more_given new post room)

-- Of a piece and a buffer the first parts, and then parts of what is after them.
pub one_more : (s t u : Spot) (piece buf new post : List ℕ) (taken more_taken given more_given : ℕ) → given ≤ length buf → more_given ≤ length new → GivesFor s (take taken piece) (take given buf) t
    → GivesFor t (take more_taken (drop taken piece)) (take more_given new) u → GivesFor s (take (taken + more_taken) piece) (take (given + more_given) (take given buf ++ (new ++ post))) u
one_more s t u piece buf new post taken more_taken given more_given fits room first second =
    subst (λ (x : List ℕ). GivesFor s x (take (given + more_given) (take given buf ++ (new ++ post))) u) (sym (take_add taken more_taken piece))
    (subst (λ (x : List ℕ). GivesFor s (take taken piece ++ take more_taken (drop taken piece)) x u) (sym (front_more buf new post given more_given fits room))
    (two_give s t u (take taken piece) (take more_taken (drop taken piece)) (take given buf) (take more_given new) first second))

-- ---- bytes that are copied

-- what is written at the front
pub written : (n : ℕ) (new buf : List ℕ) → length new ≡ length (take n buf) → n ≤ length buf → take n (new ++ drop n buf) ≡ new
written n new buf l fits =
    let len : n ≡ length new = omega (arith, l, length-take n buf) in
    ap (λ (k : ℕ). take k (new ++ drop n buf)) len ∙ take-append_seam new (drop n buf)

-- what is behind it
pub after_front : (n : ℕ) (new buf : List ℕ) → length new ≡ length (take n buf) → n ≤ length buf → drop n (new ++ drop n buf) ≡ drop n buf
after_front n new buf l fits =
    let len : n ≡ length new = omega (arith, l, length-take n buf) in
    ap (λ (k : ℕ). drop k (new ++ drop n buf)) len ∙ drop-append_seam new (drop n buf)

pub passing_copied : (n : ℕ) (piece new buf : List ℕ) → length new ≡ length (take n buf) → n ≤ length buf → new ≡ take n piece → GivesFor Passing (take n piece) (take n (new ++ drop n buf)) Passing
unfolding plain_from
passing_copied n piece new buf l fits e more = ap (λ (x : List ℕ). x ++ more) (sym (written n new buf l fits ∙ e))

pub straight_copied : (owed n : ℕ) (next : FilePosition) (t : Spot) (piece new buf : List ℕ) → length new ≡ length (take n buf) → n ≤ length buf → n ≤ length piece → n ≤ suc owed
    → new ≡ take n piece → t ≡ behind_straight owed next n → GivesFor (Straight owed next) (take n piece) (take n (new ++ drop n buf)) t
straight_copied owed n next t piece new buf l fits whole most e b more =
    let len : length (take n piece) ≡ n = omega (arith, length-take n piece) in
    straight_gives owed next (take n piece) (omega (arith, len)) more
    ∙ ap₂ (λ (x : List ℕ) (s : Spot). x ++ plain_from s more) (sym (written n new buf l fits ∙ e)) (ap (behind_straight owed next) len ∙ sym b)

-- ---- units

abbrev pub front_cells : List ℕ → List ℕ
front_cells piece = get_or piece 0 0 ∷ get_or piece 1 0 ∷ get_or piece 2 0 ∷ get_or piece 3 0 ∷ []

abbrev pub front_word : List ℕ → ℕ
front_word piece = from_be_bytes w32 (front_cells piece)

long_front : (p : FilePosition) (piece : List ℕ) → 4 ≤ length piece → GivesFor (Long p) (take 4 piece) (out_long (given p (front_word piece)) (front_cells piece) (front_word piece)) (behind_long p (front_word piece))
unfolding plain_from
long_front p (a ∷ b ∷ c ∷ d ∷ rest) whole more = refl
long_front p _ whole more = absurd (omega arith)

pub filler_front : (after : FilePosition) (piece : List ℕ) → 2 ≤ length piece → half_of (get_or piece 0 0) (get_or piece 1 0) ≡ 0 → GivesFor (Filler after) (take 2 piece) [] (Long after)
unfolding plain_from
filler_front after (a ∷ b ∷ rest) whole e more =
    ap (λ (x : Bool). cond x [] (0 ∷ 0 ∷ 3 ∷ 252 ∷ a ∷ b ∷ []) ++ plain_from (cond x (Long after) Passing) more) (eq-eqb (half_of a b) 0 e)
filler_front after _ whole e more = absurd (omega arith)

pub other_front : (after : FilePosition) (piece : List ℕ) → 2 ≤ length piece → (half_of (get_or piece 0 0) (get_or piece 1 0) ≡ 0 → ⊥)
    → GivesFor (Filler after) (take 2 piece) (0 ∷ 0 ∷ 3 ∷ 252 ∷ get_or piece 0 0 ∷ get_or piece 1 0 ∷ []) Passing
unfolding plain_from
other_front after (a ∷ b ∷ rest) whole e more =
    ap (λ (x : Bool). cond x [] (0 ∷ 0 ∷ 3 ∷ 252 ∷ a ∷ b ∷ []) ++ plain_from (cond x (Long after) Passing) more) (ne_eqb (half_of a b) 0 e)
other_front after _ whole e more = absurd (omega arith)

-- where these are written at the front of a buffer
pub given_there : (s t u : Spot) (bytes out new buf : List ℕ) (n : ℕ) → GivesFor s bytes out t → length new ≡ length (take n buf) → n ≤ length buf → new ≡ out → u ≡ t → GivesFor s bytes (take n (new ++ drop n buf)) u
given_there s t u bytes out new buf n gives l fits e b more =
    gives more ∙ ap₂ (λ (x : List ℕ) (y : Spot). x ++ plain_from y more) (sym (written n new buf l fits ∙ e)) (sym b)

pub long_there : (p : FilePosition) (g : Given) (w : ℕ) (u : Spot) (piece out : List ℕ) → 4 ≤ length piece → w ≡ from_be_bytes w32 (front_cells piece) → g ≡ given p w
    → out ≡ out_long g (front_cells piece) (from_be_bytes w32 (front_cells piece)) → u ≡ behind_long p w → GivesFor (Long p) (take 4 piece) out u
long_there p g w u piece out whole e i after b more =
    long_front p piece whole more
    ∙ ap₂ (λ (x : List ℕ) (y : Spot). x ++ plain_from y more)
    (sym (after ∙ ap (λ (h : Given). out_long h (front_cells piece) (front_word piece)) (i ∙ ap (given p) e)))
    (sym (b ∙ ap (behind_long p) e))
