-- What the plain source has left, as its source gives bytes and as bytes are given out.
use Rattle.std.proofs.Common.{◌≡◌, ℕ, List, [], ◌∷◌, ◌++◌, length, take, refl, sym, ap, subst, ◌∙◌, append-nil, Option, Some, None, Result, Ok, Err, suc, eqb, true, false, arith}
use Rattle.std.proofs.lemmas.{Bool.ne_eqb}
use Rattle.std.specs.Option.{option_map}
use Rattle.std.specs.Io.KnownBytes.{Consumes, IsAtEnd, Keeps, ReadConsumes}
use Rattle.hunk_wide.specs.declared.spot.Spot.{Spot}
use Rattle.hunk_wide.specs.declared.spot.Spot.TheVariants.{Passing}
use Rattle.hunk_wide.specs.{Held.{Held, left_of}, Plain.plain_from}

pub keeps_keeps : (a b c : Option (List ℕ)) → Keeps a b → Keeps b c → Keeps a c
keeps_keeps None b c h k = tt
keeps_keeps (Some xs) None c h k = absurd h
keeps_keeps (Some xs) (Some ys) None h k = absurd k
keeps_keeps (Some xs) (Some ys) (Some zs) h k = k ∙ h

pub keeps_consumes : (a b c : Option (List ℕ)) (bytes : List ℕ) → Keeps a b → Consumes b c bytes → Consumes a c bytes
keeps_consumes None b c bytes h k = tt
keeps_consumes (Some xs) None c bytes h k = absurd h
keeps_consumes (Some xs) (Some ys) None bytes h k = absurd k
keeps_consumes (Some xs) (Some ys) (Some zs) bytes h k = sym h ∙ k

passes_all : (s : Spot) (bytes : List ℕ) → s ≡ Passing → plain_from s bytes ≡ bytes
unfolding plain_from
passes_all s bytes e = ap (λ (x : Spot). plain_from x bytes) e

-- where the source has ended
pub keeps_ended : (h k : Held) (a b : Option (List ℕ)) (bytes : List ℕ) → Consumes a b bytes → bytes ≡ [] → IsAtEnd b → k.ready ≡ left_of h [] → k.spot ≡ Passing → k.begun ≡ [] →
    Keeps (option_map (left_of h) a) (option_map (left_of k) b)
keeps_ended h k None b bytes c none end ready spot begun = tt
keeps_ended h k (Some xs) None bytes c none end ready spot begun = absurd c
keeps_ended h k (Some xs) (Some ys) bytes c none end ready spot begun =
    let at : plain_from k.spot (k.begun ++ ys) ≡ [] = passes_all k.spot (k.begun ++ ys) spot ∙ (λ i. begun i ++ end i) in
    let empty : xs ≡ [] = c ∙ (λ i. none i ++ end i) in
    (λ i. ready i ++ at i) ∙ append-nil (left_of h []) ∙ ap (left_of h) (sym empty)

-- where all passes
pub passes_map : (h : Held) (a : Option (List ℕ)) → h.ready ≡ [] → h.spot ≡ Passing → h.begun ≡ [] → option_map (left_of h) a ≡ a
passes_map h None ready spot begun = refl
passes_map h (Some xs) ready spot begun =
    ap (λ (x : List ℕ). Some x) ((λ i. ready i ++ plain_from h.spot (begun i ++ xs)) ∙ passes_all h.spot xs spot)

pub keeps_read : {E : Type 0} (a b c : Option (List ℕ)) (r : Result ℕ E) (buf : List ℕ) → Keeps a b → ReadConsumes b c r buf → ReadConsumes a c r buf
keeps_read a b c (Ok n) buf k h = (keeps_consumes a b c (take n buf) k h.0, h.1)
keeps_read a b c (Err e) buf k h = keeps_keeps a b c k h

pub read_passes : {E : Type 0} (h : Held) (a b : Option (List ℕ)) (r : Result ℕ E) (buf : List ℕ) → h.ready ≡ [] → h.spot ≡ Passing → h.begun ≡ [] → ReadConsumes a b r buf → ReadConsumes (option_map (left_of h) a) (option_map (left_of h) b) r buf
read_passes h a b r buf ready spot begun k =
    subst (λ (x : Option (List ℕ)). ReadConsumes x (option_map (left_of h) b) r buf) (sym (passes_map h a ready spot begun))
    (subst (λ (x : Option (List ℕ)). ReadConsumes a x r buf) (sym (passes_map h b ready spot begun)) k)

pub no_length : (xs : List ℕ) → eqb (length xs) 0 ≡ true → xs ≡ []
no_length [] e = refl
no_length (x ∷ xs) e = absurd (let some : eqb (suc (length xs)) 0 ≡ false = ne_eqb (suc (length xs)) 0 (omega arith) in cc)

pub map_all : (f g : List ℕ → List ℕ) (a : Option (List ℕ)) (input : List ℕ) → ((more : List ℕ) → f more ≡ g more) → a ≡ Some input → option_map f a ≡ Some (g input)
map_all f g a input same e = ap (option_map f) e ∙ ap (λ (x : List ℕ). Some x) (same input)

-- ---- bytes that were taken at once

-- For these of the source those are given out.
pub consumes_for : (h k : Held) (a b : Option (List ℕ)) (taken bytes : List ℕ) → Consumes a b taken → ((more : List ℕ) → left_of h (taken ++ more) ≡ bytes ++ left_of k more) → Consumes (option_map (left_of h) a) (option_map (left_of k) b) bytes
consumes_for h k None b taken bytes c gives = tt
consumes_for h k (Some xs) None taken bytes c gives = absurd c
consumes_for h k (Some xs) (Some ys) taken bytes c gives = ap (left_of h) c ∙ gives ys
