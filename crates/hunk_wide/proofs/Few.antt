-- Bytes of a longword, or of a word of 16 bits, that is not whole.
use Rattle.std.proofs.Common.{◌≡◌, ℕ, zero, suc, ◌+◌, ◌-◌, ◌^◌, ◌<◌, ◌≤◌, Bool, true, false, cond, List, [], ◌∷◌, ◌++◌, length, take, refl, length-append, sym, ap, ◌∙◌, append_assoc, arith}
use Rattle.std.specs.Int.{to_be_bytes, w32}
use Rattle.std.proofs.lemmas.Bool.{eq-eqb, ne_eqb}
use Rattle.hunk_words.specs.{Bits.end_word, Longs.bytes_of}
use Rattle.hunk_words.proofs.{PendingLaws.pending_none, LongLaws.length-bytes_of}
use Rattle.hunk_grammar.specs.declared.phase.Phase.{Phase}
use Rattle.hunk_grammar.specs.declared.phase.Phase.TheVariants as phases
use Rattle.hunk_grammar.specs.declared.position.Position.TheVariants as positions
use Rattle.hunk_grammar.specs.Positions.{step}
use Rattle.hunk_grammar.specs.declared.position.OpenHunk.{OpenHunk}
use Rattle.hunk_wide.specs.declared.spot.ShortPart.{ShortPart}
use Rattle.hunk_wide.proofs.Cells.{long_cells}
use Rattle.hunk_words.specs.{declared.pending.Pending.Pending, PendingBytes.pending_of}
use Rattle.hunk_wide.specs.declared.position.FilePosition.{FilePosition}
use Rattle.hunk_wide.specs.declared.position.FilePosition.TheVariants as files
use Rattle.hunk_wide.specs.declared.spot.Spot.{Spot}
use Rattle.hunk_wide.specs.declared.spot.Spot.TheVariants.{Passing, Straight, Long, Half, Filler}
use Rattle.hunk_wide.specs.{Held.{Held, unit, wanted, wanted_by}, FileEnds.{is_last}, Halves.{behind_half, half_of}, Longwords.{behind_load, behind_long, given, go_on, out_long}, Plain.{plain_from}}

abbrev held : ℕ → ℕ → ℕ → ℕ → Pending
held n a b c = record { count = n; first = a; second = b; third = c }

few : (s : Spot) (n a b c : ℕ) → n ≤ unit s - 1 → ((p : FilePosition) → s ≡ Long p → n ≡ 0 → ⊥) → plain_from s (pending_of (held n a b c)) ≡ take n (a ∷ b ∷ c ∷ 0 ∷ [])
unfolding plain_from
few Passing zero a b c h some = refl
few Passing (suc n) a b c h some = absurd (omega arith)
few (Straight zero next) zero a b c h some = refl
few (Straight (suc owed) next) zero a b c h some = refl
few (Straight owed next) (suc n) a b c h some = absurd (omega arith)
few (Long p) zero a b c h some = absurd (some p refl refl)
few (Long p) (suc zero) a b c h some = refl
few (Long p) (suc (suc zero)) a b c h some = refl
few (Long p) (suc (suc (suc zero))) a b c h some = refl
few (Long p) (suc (suc (suc (suc n)))) a b c h some = absurd (omega arith)
few (Half after part odd) zero a b c h some = refl
few (Half after part odd) (suc zero) a b c h some = refl
few (Half after part odd) (suc (suc n)) a b c h some = absurd (omega arith)
few (Filler after) zero a b c h some = refl
few (Filler after) (suc zero) a b c h some = refl
few (Filler after) (suc (suc n)) a b c h some = absurd (omega arith)

-- They are given out as they are at the end of the input.
pub few_bytes : (s : Spot) (p : Pending) → p.count ≤ unit s - 1 → ((q : FilePosition) → s ≡ Long q → p.count ≡ 0 → ⊥) → plain_from s (pending_of p) ≡ take p.count (p.first ∷ p.second ∷ p.third ∷ 0 ∷ [])
few_bytes s p h some = few s p.count p.first p.second p.third h some

pub pending_length : (p : Pending) → p.count < 4 → length (pending_of p) ≡ p.count
pending_length p h = grind arith

pub pending_one : (p : Pending) → p.count < 2 → (p.count ≡ 0 → ⊥) → pending_of p ≡ p.first ∷ []
pending_one p h some = grind arith

-- ---- a byte more

-- where the longword, or the word of 16 bits, is still not whole
pub begins_more : (s : Spot) (begun after more : List ℕ) (byte : ℕ) → after ≡ begun ++ byte ∷ [] → plain_from s (after ++ more) ≡ plain_from s (begun ++ byte ∷ more)
begins_more s begun after more byte e = ap (λ (x : List ℕ). plain_from s (x ++ more)) e ∙ ap (plain_from s) (append_assoc begun (byte ∷ []) more)

-- where it is whole
pub long_one : (p : FilePosition) (w : ℕ) (more : List ℕ) → w < 2 ^ 32 →
    out_long (given p w) (to_be_bytes w32 w) w ++ plain_from (behind_long p w) more ≡ plain_from (Long p) (bytes_of (w ∷ []) ++ more)
unfolding bytes_of
long_one p w more fits = sym (long_cells p w more fits)

pub half_whole : (after : FilePosition) (part : ShortPart) (odd : Bool) (p : Pending) (byte : ℕ) (more : List ℕ) → p.count < 2 → (p.count ≡ 0 → ⊥) →
    (0 ∷ 0 ∷ p.first ∷ byte ∷ []) ++ plain_from (behind_half after part odd (half_of p.first byte)) more ≡ plain_from (Half after part odd) (pending_of p ++ byte ∷ more)
unfolding plain_from
half_whole after part odd p byte more few some = sym (ap (λ (x : List ℕ). plain_from (Half after part odd) (x ++ byte ∷ more)) (pending_one p few some))

pub filler_zero : (after : FilePosition) (p : Pending) (byte : ℕ) (more : List ℕ) → p.count < 2 → (p.count ≡ 0 → ⊥) → half_of p.first byte ≡ 0 →
    plain_from (Long after) more ≡ plain_from (Filler after) (pending_of p ++ byte ∷ more)
unfolding plain_from
filler_zero after p byte more few some zero_is =
    sym (ap (λ (x : List ℕ). plain_from (Filler after) (x ++ byte ∷ more)) (pending_one p few some)
    ∙ ap (λ (b : Bool). cond b [] (0 ∷ 0 ∷ 3 ∷ 252 ∷ p.first ∷ byte ∷ []) ++ plain_from (cond b (Long after) Passing) more) (eq-eqb (half_of p.first byte) 0 zero_is))

pub filler_other : (after : FilePosition) (p : Pending) (byte : ℕ) (more : List ℕ) → p.count < 2 → (p.count ≡ 0 → ⊥) → (half_of p.first byte ≡ 0 → ⊥) →
    (0 ∷ 0 ∷ 3 ∷ 252 ∷ p.first ∷ byte ∷ []) ++ plain_from Passing more ≡ plain_from (Filler after) (pending_of p ++ byte ∷ more)
unfolding plain_from
filler_other after p byte more few some not_zero =
    sym (ap (λ (x : List ℕ). plain_from (Filler after) (x ++ byte ∷ more)) (pending_one p few some)
    ∙ ap (λ (b : Bool). cond b [] (0 ∷ 0 ∷ 3 ∷ 252 ∷ p.first ∷ byte ∷ []) ++ plain_from (cond b (Long after) Passing) more) (ne_eqb (half_of p.first byte) 0 not_zero))

-- How many bytes had come of a longword that is whole now.
pub whole_count : (p : Pending) (byte w : ℕ) → p.count < 4 → pending_of p ++ byte ∷ [] ≡ bytes_of (w ∷ []) → p.count ≡ 3
whole_count p byte w few e = omega (arith, pending_length p few, length-append (pending_of p) (byte ∷ []), ap length e, length-bytes_of (w ∷ []))

-- ---- what is wanted

pub wants_unit : (h : Held) → 0 < wanted h → (h.ready ≡ []) × (wanted h ≡ unit h.spot - length h.begun)
wants_unit h some = by h.ready some
  where
    by : (ready : List ℕ) → 0 < wanted_by ready h.spot h.begun → (ready ≡ []) × (wanted_by ready h.spot h.begun ≡ unit h.spot - length h.begun)
    by [] some = (refl, refl)
    by (x ∷ xs) some = absurd (omega arith)

pub unit_most : (s : Spot) → unit s ≤ 4
unit_most Passing = omega arith
unit_most (Straight owed next) = omega arith
unit_most (Long p) = omega arith
unit_most (Half after part odd) = omega arith
unit_most (Filler after) = omega arith

pub push_wanted : (h : Held) (ready : List ℕ) (s : Spot) (p : Pending) (n : ℕ) → record { ready = ready; spot = s; begun = pending_of p } ≡ h → 0 < wanted h → p.count ≤ unit s - 1 → unit s ≤ n + p.count + 1 → wanted h ≤ n + 1
push_wanted h ready s p n e some fits most =
    let few : p.count < 4 = omega (arith, unit_most s) in
    omega (arith, (wants_unit h some).1, ap (λ (x : Held). unit x.spot) e, ap (λ (x : Held). length x.begun) e, pending_length p few)

-- ---- no byte more

pub nothing_there : (s : Spot) (b : Pending) → b.count ≡ 0 → plain_from s (pending_of b) ≡ cond (is_last s) (to_be_bytes w32 end_word) []
unfolding plain_from
nothing_there Passing b none = pending_none b none
nothing_there (Straight zero next) b none = ap (plain_from (Straight zero next)) (pending_none b none)
nothing_there (Straight (suc owed) next) b none = ap (plain_from (Straight (suc owed) next)) (pending_none b none)
nothing_there (Long p) b none = ap (plain_from (Long p)) (pending_none b none)
nothing_there (Half after part odd) b none = ap (plain_from (Half after part odd)) (pending_none b none)
nothing_there (Filler after) b none = ap (plain_from (Filler after)) (pending_none b none)

pub last_there : (s : Spot) (b : Pending) → b.count ≡ 0 → is_last s ≡ true → to_be_bytes w32 end_word ≡ plain_from s (pending_of b)
last_there s b none e = sym (nothing_there s b none ∙ ap (λ (x : Bool). cond x (to_be_bytes w32 end_word) []) e)

pub none_there : (s : Spot) (b : Pending) → b.count ≡ 0 → is_last s ≡ false → [] ≡ plain_from s (pending_of b)
none_there s b none e = sym (nothing_there s b none ∙ ap (λ (x : Bool). cond x (to_be_bytes w32 end_word) []) e)

pub other_phase : (o : OpenHunk) (phase : Phase) (w : ℕ) → (phase ≡ phases.FirstBlock → ⊥) → (phase ≡ phases.BlockWord → ⊥) → go_on (files.Load (step (positions.Body o phase) w)) ≡ behind_load (positions.Body o phase) w
other_phase o phases.FirstBlock w a b = absurd (a refl)
other_phase o phases.BlockWord w a b = absurd (b refl)
other_phase o _ w a b = refl
