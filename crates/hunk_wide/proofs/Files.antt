-- Bytes of a file are taken, and none after it.
use Rattle.std.proofs.Common.{◌≡◌, ℕ, zero, suc, ◌<◌, ◌≤◌, Bool, true, false, cond, eqb, ltb, List, [], ◌∷◌, ◌++◌, length, length-append, take, drop, refl, sym, ap, subst, ◌∙◌, append_assoc, append-nil, Option, Some, None, Result, Ok, Err, arith}
use Rattle.std.specs.Int.{from_be_bytes, w32}
use Rattle.std.specs.{Io.ReadsAtMost, Io.KnownBytes.{Consumes, IsAtEnd, Keeps, ReadConsumes}, Prelude.MatchResult, Result.IsErr}
use Rattle.std.proofs.lemmas.{Bool.{ltb-false, ltb-true}, List.{drop-append-le, length-take, take-append-drop, take-append-le}}
use Rattle.std.proofs.Math.Seq.{drop-append_seam, take-append_seam}
use Rattle.hunk_wide.specs.declared.spot.Spot.{Spot}
use Rattle.hunk_wide.specs.declared.spot.Spot.TheVariants.{Passing, Straight, Long, Half, Filler}
use Rattle.hunk_wide.specs.declared.spot.Given.{Given}
use Rattle.hunk_wide.specs.declared.spot.Given.TheVariants.{Same, BehindEnd, AsLong}
use Rattle.hunk_wide.specs.{Halves.{behind_filler, behind_half, half_of, out_filler}, Held.{Held, left_of, unit, straight_by, straight_of, wanted, wanted_by}, InFile.{InFile, StaysInFile, spot_after, spot_of}, Longwords.{behind_long, given, out_long}, Plain.plain_from}
use Rattle.hunk_wide.proofs.{Few.wants_unit, Leads.passing_stays, Straight.{IsPassing, passing_left}}

-- ---- after the end all bytes pass

pub passes_on : (s : Spot) (xs more : List ℕ) → spot_after s xs ≡ Passing → plain_from s (xs ++ more) ≡ plain_from s xs ++ more
unfolding spot_after plain_from
passes_on Passing xs more e = refl
passes_on (Straight zero next) (b ∷ rest) more e = ap (λ (x : List ℕ). b ∷ x) (passes_on (Long next) rest more e)
passes_on (Straight (suc owed) next) (b ∷ rest) more e = ap (λ (x : List ℕ). b ∷ x) (passes_on (Straight owed next) rest more e)
passes_on (Long p) (a ∷ b ∷ c ∷ d ∷ rest) more e =
    let w : ℕ = from_be_bytes w32 (a ∷ b ∷ c ∷ d ∷ []) in
    let out : List ℕ = out_long (given p w) (a ∷ b ∷ c ∷ d ∷ []) w in
    ap (λ (x : List ℕ). out ++ x) (passes_on (behind_long p w) rest more e) ∙ sym (append_assoc out (plain_from (behind_long p w) rest) more)
passes_on (Half after part odd) (a ∷ b ∷ rest) more e = ap (λ (x : List ℕ). 0 ∷ 0 ∷ a ∷ b ∷ x) (passes_on (behind_half after part odd (half_of a b)) rest more e)
passes_on (Filler after) (a ∷ b ∷ rest) more e =
    ap (λ (x : List ℕ). out_filler a b ++ x) (passes_on (behind_filler after a b) rest more e) ∙ sym (append_assoc (out_filler a b) (plain_from (behind_filler after a b) rest) more)
passes_on (Straight zero next) [] more e = absurd (cc e)
passes_on (Straight (suc owed) next) [] more e = absurd (cc e)
passes_on (Long p) [] more e = absurd (cc e)
passes_on (Long p) (a ∷ []) more e = absurd (cc e)
passes_on (Long p) (a ∷ b ∷ []) more e = absurd (cc e)
passes_on (Long p) (a ∷ b ∷ c ∷ []) more e = absurd (cc e)
passes_on (Half after part odd) [] more e = absurd (cc e)
passes_on (Half after part odd) (a ∷ []) more e = absurd (cc e)
passes_on (Filler after) [] more e = absurd (cc e)
passes_on (Filler after) (a ∷ []) more e = absurd (cc e)

pub ends_on : (s : Spot) (xs more : List ℕ) → spot_after s xs ≡ Passing → spot_after s (xs ++ more) ≡ Passing
unfolding spot_after
ends_on Passing xs more e = refl
ends_on (Straight zero next) (b ∷ rest) more e = ends_on (Long next) rest more e
ends_on (Straight (suc owed) next) (b ∷ rest) more e = ends_on (Straight owed next) rest more e
ends_on (Long p) (a ∷ b ∷ c ∷ d ∷ rest) more e = ends_on (behind_long p (from_be_bytes w32 (a ∷ b ∷ c ∷ d ∷ []))) rest more e
ends_on (Half after part odd) (a ∷ b ∷ rest) more e = ends_on (behind_half after part odd (half_of a b)) rest more e
ends_on (Filler after) (a ∷ b ∷ rest) more e = ends_on (behind_filler after a b) rest more e
ends_on (Straight zero next) [] more e = absurd (cc e)
ends_on (Straight (suc owed) next) [] more e = absurd (cc e)
ends_on (Long p) [] more e = absurd (cc e)
ends_on (Long p) (a ∷ []) more e = absurd (cc e)
ends_on (Long p) (a ∷ b ∷ []) more e = absurd (cc e)
ends_on (Long p) (a ∷ b ∷ c ∷ []) more e = absurd (cc e)
ends_on (Half after part odd) [] more e = absurd (cc e)
ends_on (Half after part odd) (a ∷ []) more e = absurd (cc e)
ends_on (Filler after) [] more e = absurd (cc e)
ends_on (Filler after) (a ∷ []) more e = absurd (cc e)

-- Before the end a whole unit is to come.
pub whole_unit : (s : Spot) (xs : List ℕ) → spot_after s xs ≡ Passing → unit s ≤ length xs
unfolding spot_after
whole_unit Passing xs e = omega arith
whole_unit (Straight zero next) (b ∷ rest) e = omega arith
whole_unit (Straight (suc owed) next) (b ∷ rest) e = omega arith
whole_unit (Long p) (a ∷ b ∷ c ∷ d ∷ rest) e = omega arith
whole_unit (Half after part odd) (a ∷ b ∷ rest) e = omega arith
whole_unit (Filler after) (a ∷ b ∷ rest) e = omega arith
whole_unit (Straight zero next) [] e = absurd (cc e)
whole_unit (Straight (suc owed) next) [] e = absurd (cc e)
whole_unit (Long p) [] e = absurd (cc e)
whole_unit (Long p) (a ∷ []) e = absurd (cc e)
whole_unit (Long p) (a ∷ b ∷ []) e = absurd (cc e)
whole_unit (Long p) (a ∷ b ∷ c ∷ []) e = absurd (cc e)
whole_unit (Half after part odd) [] e = absurd (cc e)
whole_unit (Half after part odd) (a ∷ []) e = absurd (cc e)
whole_unit (Filler after) [] e = absurd (cc e)
whole_unit (Filler after) (a ∷ []) e = absurd (cc e)

pub none_after : (s : Spot) → spot_after s [] ≡ s
unfolding spot_after
none_after Passing = refl
none_after (Straight zero next) = refl
none_after (Straight (suc owed) next) = refl
none_after (Long p) = refl
none_after (Half after part odd) = refl
none_after (Filler after) = refl

long_some : (g : Given) (a b c d w : ℕ) (xs : List ℕ) → 0 < length (out_long g (a ∷ b ∷ c ∷ d ∷ []) w ++ xs)
long_some Same a b c d w xs = omega arith
long_some BehindEnd a b c d w xs = omega arith
long_some AsLong a b c d w xs = omega arith

-- Where nothing more of it is given out, the file was at its end.
pub at_its_end : (s : Spot) (xs : List ℕ) → spot_after s xs ≡ Passing → plain_from s xs ≡ [] → s ≡ Passing
unfolding spot_after plain_from
at_its_end Passing xs e none = refl
at_its_end (Straight zero next) (b ∷ rest) e none = absurd (omega (arith, ap length none))
at_its_end (Straight (suc owed) next) (b ∷ rest) e none = absurd (omega (arith, ap length none))
at_its_end (Long p) (a ∷ b ∷ c ∷ d ∷ rest) e none =
    let w : ℕ = from_be_bytes w32 (a ∷ b ∷ c ∷ d ∷ []) in
    absurd (omega (arith, long_some (given p w) a b c d w (plain_from (behind_long p w) rest), ap length none))
at_its_end (Half o part odd) (a ∷ b ∷ rest) e none = absurd (omega (arith, ap length none))
at_its_end (Filler o) (a ∷ b ∷ rest) e none = go (eqb (half_of a b) 0) _ (λ same. cc same) (at_its_end _ rest) e none
  where
    go : (x : Bool) (next : Spot) → (next ≡ Passing → ⊥) → (spot_after next rest ≡ Passing → plain_from next rest ≡ [] → next ≡ Passing)
        → spot_after (cond x next Passing) rest ≡ Passing → cond x [] (0 ∷ 0 ∷ 3 ∷ 252 ∷ a ∷ b ∷ []) ++ plain_from (cond x next Passing) rest ≡ [] → Filler o ≡ Passing
    go true next other later e none = absurd (other (later e none))
    go false next other later e none = absurd (omega (arith, ap length none))
at_its_end (Straight zero next) [] e none = absurd (cc e)
at_its_end (Straight (suc owed) next) [] e none = absurd (cc e)
at_its_end (Long p) [] e none = absurd (cc e)
at_its_end (Long p) (a ∷ []) e none = absurd (cc e)
at_its_end (Long p) (a ∷ b ∷ []) e none = absurd (cc e)
at_its_end (Long p) (a ∷ b ∷ c ∷ []) e none = absurd (cc e)
at_its_end (Half after part odd) [] e none = absurd (cc e)
at_its_end (Half after part odd) (a ∷ []) e none = absurd (cc e)
at_its_end (Filler after) [] e none = absurd (cc e)
at_its_end (Filler after) (a ∷ []) e none = absurd (cc e)

-- ---- bytes that are taken

abbrev inside : Option (List ℕ) → List ℕ
inside (Some xs) = xs
inside None = []

record Cut (xs rest taken after : List ℕ) : Type 0 where
  pub more : List ℕ
  pub front : xs ≡ taken ++ more
  pub back : after ≡ more ++ rest

cut : (xs rest taken after : List ℕ) → xs ++ rest ≡ taken ++ after → length taken ≤ length xs → Cut xs rest taken after
cut xs rest taken after e fits =
    let front : take (length taken) xs ≡ taken = sym (take-append-le (length taken) xs rest fits) ∙ ap (take (length taken)) e ∙ take-append_seam taken after in
    record {
      more = drop (length taken) xs;
      front = sym (take-append-drop (length taken) xs) ∙ ap (λ (x : List ℕ). x ++ drop (length taken) xs) front;
      back = sym (drop-append_seam taken after) ∙ ap (drop (length taken)) (sym e) ∙ drop-append-le (length taken) xs rest fits;
    }

module _ (h k : Held) (taken out : List ℕ) (gives : (more : List ℕ) → left_of h (taken ++ more) ≡ out ++ left_of k more) (leads : (more : List ℕ) → spot_of h (taken ++ more) ≡ spot_of k more) where
  -- They are all of the file.
  pub stays_within : (a b : Option (List ℕ)) (file rest : List ℕ) (i : InFile h a file rest) → Consumes a b taken → length taken ≤ length i.bytes → InFile k b (drop (length out) file) rest
  stays_within None b file rest i c fits = absurd (cc i.source)
  stays_within (Some xs) None file rest i c fits = absurd c
  stays_within (Some xs) (Some ys) file rest i c fits =
      let r = cut i.bytes rest taken ys (sym (ap inside i.source) ∙ c) fits in
      record {
        bytes = r.more;
        source = ap (λ (x : List ℕ). Some x) r.back;
        ends = sym (leads r.more) ∙ ap (spot_of h) (sym r.front) ∙ i.ends;
        gives = sym (drop-append_seam out (left_of k r.more)) ∙ ap (drop (length out)) (sym (gives r.more) ∙ ap (left_of h) (sym r.front) ∙ i.gives);
      }

  -- With more of them more would be given out than the file has.
  not_past : (xs more : List ℕ) → k.ready ≡ [] → k.begun ≡ [] → spot_of h xs ≡ Passing → taken ≡ xs ++ more → length out ≤ length (left_of h xs) → length more ≤ 0
  unfolding plain_from
  not_past xs more ready begun ends is fits =
      let whole : left_of h taken ≡ left_of h xs ++ more =
      ap (left_of h) is ∙ ap (λ (x : List ℕ). h.ready ++ plain_from h.spot x) (sym (append_assoc h.begun xs more))
      ∙ ap (λ (x : List ℕ). h.ready ++ x) (passes_on h.spot (h.begun ++ xs) more ends) ∙ sym (append_assoc h.ready (plain_from h.spot (h.begun ++ xs)) more) in
      let passing : k.spot ≡ Passing =
      sym (none_after k.spot) ∙ ap (spot_after k.spot) (sym (append-nil k.begun ∙ begun)) ∙ sym (leads [])
      ∙ ap (spot_of h) (append-nil taken ∙ is) ∙ ap (spot_after h.spot) (sym (append_assoc h.begun xs more)) ∙ ends_on h.spot (h.begun ++ xs) more ends in
      let empty : left_of k [] ≡ [] = (λ j. ready j ++ plain_from (passing j) (begun j ++ [])) in
      let all : left_of h xs ++ more ≡ out ++ [] = sym whole ∙ ap (left_of h) (sym (append-nil taken)) ∙ gives [] ∙ ap (λ (x : List ℕ). out ++ x) empty in
      omega (arith, length-append (left_of h xs) more, length-append out [], ap length all, fits)

  -- What is not held is of the file, as far as no more than that is given out.
  pub stays_bare : (a b : Option (List ℕ)) (n : ℕ) → Consumes a b taken → (0 < length taken → (k.ready ≡ []) × (k.begun ≡ [])) → length out ≡ n → StaysInFile h a k b n
  stays_bare None b n c bare len file rest i fits = absurd (cc i.source)
  stays_bare (Some xs) None n c bare len file rest i fits = absurd c
  stays_bare (Some xs) (Some ys) n c bare len file rest i fits =
      subst (λ (m : ℕ). InFile k (Some ys) (drop m file) rest) len (stays_within (Some xs) (Some ys) file rest i c (go (ltb (length i.bytes) (length taken)) refl))
    where
      go : (b : Bool) → ltb (length i.bytes) (length taken) ≡ b → length taken ≤ length i.bytes
      go false e = omega (arith, ltb-false (length i.bytes) (length taken) e)
      go true e =
          let more = ltb-true (length i.bytes) (length taken) e in
          let held = bare (omega (arith, more)) in
          let r = cut taken ys i.bytes rest (sym (sym (ap inside i.source) ∙ c)) (omega (arith, more)) in
          let none = not_past i.bytes r.more held.0 held.1 i.ends r.front (omega (arith, len, fits, ap length i.gives)) in
          omega (arith, none, ap length r.front, length-append i.bytes r.more)

-- ---- calls, one after the other

pub two_stay : (h k l : Held) (a b c : Option (List ℕ)) (n : ℕ) → StaysInFile h a k b 0 → StaysInFile k b l c n → StaysInFile h a l c n
two_stay h k l a b c n first second file rest i fits = second file rest (first file rest i (omega arith)) fits

same_stay : (h : Held) (a b : Option (List ℕ)) → Keeps a b → StaysInFile h a h b 0
same_stay h None b k file rest i fits = absurd (cc i.source)
same_stay h (Some xs) None k file rest i fits = absurd k
same_stay h (Some xs) (Some ys) k file rest i fits = record { bytes = i.bytes; source = ap (λ (x : List ℕ). Some x) k ∙ i.source; ends = i.ends; gives = i.gives }

pub stays_first : {E : Type 0} (h k : Held) (a b c : Option (List ℕ)) (r : Result ℕ E) → StaysInFile h a k b 0 → MatchResult r (λ n. StaysInFile k b k c n) (λ e. StaysInFile k b k c 0)
    → MatchResult r (λ n. StaysInFile h a k c n) (λ e. StaysInFile h a k c 0)
stays_first h k a b c (Ok n) first second = two_stay h k k a b c n first second
stays_first h k a b c (Err e) first second = two_stay h k k a b c 0 first second

pub err_stays : {E : Type 0} (h k : Held) (a b : Option (List ℕ)) (r : Result ℕ E) → IsErr r → StaysInFile h a k b 0 → MatchResult r (λ n. StaysInFile h a k b n) (λ e. StaysInFile h a k b 0)
err_stays h k a b (Ok n) is first = absurd (cc is)
err_stays h k a b (Err e) is first = first

none_taken : (a : Option (List ℕ)) → Consumes a a []
none_taken None = tt
none_taken (Some xs) = refl

-- Bytes that are ready are given out.
pub ready_stay : (h k : Held) (a : Option (List ℕ)) (n : ℕ) (buf : List ℕ) → k.spot ≡ h.spot → k.begun ≡ h.begun → ((more : List ℕ) → left_of h more ≡ take n buf ++ left_of k more) → n ≤ length buf → StaysInFile h a k a n
ready_stay h k a n buf spot begun gives fits file rest i most =
    let len : length (take n buf) ≡ n = omega (arith, length-take n buf) in
    subst (λ (m : ℕ). InFile k a (drop m file) rest) len
    (stays_within h k [] (take n buf) gives (λ more. sym (λ j. spot_after (spot j) (begun j ++ more))) a a file rest i (none_taken a) (omega arith))

-- Where all bytes pass they are pulled from the source.
pub passing_stay : {E : Type 0} (h : Held) (a b : Option (List ℕ)) (r : Result ℕ E) (buf : List ℕ) → h.ready ≡ [] → h.spot ≡ Passing → h.begun ≡ [] → ReadsAtMost r buf → ReadConsumes a b r buf
    → MatchResult r (λ n. StaysInFile h a h b n) (λ e. StaysInFile h a h b 0)
passing_stay h a b (Ok n) buf ready spot begun inside c =
    let i : IsPassing h = record { ready = ready; spot = spot; begun = begun } in
    stays_bare h h (take n buf) (take n buf) (λ more. passing_left h (take n buf) more i) (λ more. passing_stays h (take n buf) more i) a b n c.0 (λ some. (ready, begun)) (omega (arith, length-take n buf, inside))
passing_stay h a b (Err e) buf ready spot begun inside c = same_stay h a b c

-- Bytes that are given out as they are come where nothing is held.
pub straight_bare : (h : Held) (bytes : List ℕ) → 0 < length (straight_of h bytes) → (h.ready ≡ []) × (h.begun ≡ [])
straight_bare h bytes some = go h.ready h.spot h.begun some
  where
    go : (ready : List ℕ) (spot : Spot) (begun : List ℕ) → 0 < length (straight_by ready spot begun bytes) → (ready ≡ []) × (begun ≡ [])
    go [] Passing [] some = (refl, refl)
    go [] (Straight owed next) [] some = (refl, refl)
    go [] Passing (b ∷ bs) some = absurd (omega arith)
    go [] (Straight owed next) (b ∷ bs) some = absurd (omega arith)
    go [] (Long p) begun some = absurd (omega arith)
    go [] (Half after part odd) begun some = absurd (omega arith)
    go [] (Filler after) begun some = absurd (omega arith)
    go (x ∷ xs) spot begun some = absurd (omega arith)

-- ---- before the end bytes are to come

pub wanted_fits : (h : Held) (a : Option (List ℕ)) (file rest : List ℕ) (i : InFile h a file rest) → 0 < wanted h → wanted h ≤ length i.bytes
wanted_fits h a file rest i some = omega (arith, (wants_unit h some).1, whole_unit h.spot (h.begun ++ i.bytes) i.ends, length-append h.begun i.bytes)

pub not_ended : (h : Held) (a b : Option (List ℕ)) (taken file rest : List ℕ) → InFile h a file rest → Consumes a b taken → taken ≡ [] → IsAtEnd b → 0 < wanted h → ⊥
not_ended h None b taken file rest i c none end some = cc i.source
not_ended h (Some xs) None taken file rest i c none end some = c
not_ended h (Some xs) (Some ys) taken file rest i c none end some =
    omega (arith, wanted_fits h (Some xs) file rest i some, length-append i.bytes rest, ap length (sym (ap inside i.source) ∙ c ∙ (λ j. none j ++ end j)))

-- ---- at the end

pub wants_none : (h : Held) → h.spot ≡ Passing → wanted h ≡ 0
wants_none h e = go h.ready
  where
    go : (ready : List ℕ) → wanted_by ready h.spot h.begun ≡ 0
    go [] = let none : unit h.spot ≡ 0 = ap unit e in omega (arith, none)
    go (x ∷ xs) = refl

no_front : (xs ys : List ℕ) → xs ++ ys ≡ [] → xs ≡ []
no_front [] ys e = refl
no_front (x ∷ xs) ys e = absurd (omega (arith, ap length e))

pub apart : (b : Bool) → b ≡ true → b ≡ false → ⊥
apart true e f = cc f
apart false e f = cc e

pub is_empty_there : (xs : List ℕ) (b : Bool) → xs ≡ [] → b ≡ eqb (length xs) 0 → b ≡ true
is_empty_there xs b none e = e ∙ ap (λ (l : List ℕ). eqb (length l) 0) none

pub ended : (h : Held) (a : Option (List ℕ)) (rest : List ℕ) → InFile h a [] rest → (h.ready ≡ []) × (h.spot ≡ Passing)
ended h a rest i =
    let ready = no_front h.ready (plain_from h.spot (h.begun ++ i.bytes)) i.gives in
    (ready, at_its_end h.spot (h.begun ++ i.bytes) i.ends (ap (λ (x : List ℕ). x ++ plain_from h.spot (h.begun ++ i.bytes)) (sym ready) ∙ i.gives))

pub ended_left : (h : Held) (a : Option (List ℕ)) (rest : List ℕ) → InFile h a [] rest → h.begun ≡ [] → a ≡ Some rest
unfolding plain_from
ended_left h a rest i begun =
    let e = ended h a rest i in
    let none : i.bytes ≡ [] = sym (λ j. e.0 j ++ plain_from (e.1 j) (begun j ++ i.bytes)) ∙ i.gives in
    i.source ∙ ap (λ (x : List ℕ). Some (x ++ rest)) none
