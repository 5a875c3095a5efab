-- What bytes lead to: what is after them is for.
use Rattle.std.proofs.Common.{◌≡◌, ℕ, zero, suc, ◌+◌, ◌*◌, ◌/◌, ◌%◌, ◌^◌, ◌<◌, ◌≤◌, Bool, cond, List, [], ◌∷◌, ◌++◌, length, take, drop, get_or, refl, sym, ap, ◌∙◌, append_assoc, arith}
use Rattle.std.specs.Int.{from_be_bytes, to_be_bytes, w16, w32}
use Rattle.std.proofs.lemmas.{Bool.{eq-eqb, ne_eqb}, List.length-take, Nat.from_be_bytes-to_be_bytes_4}
use Rattle.hunk_words.specs.{Longs.bytes_of, declared.pending.Pending.Pending, PendingBytes.pending_of}
use Rattle.hunk_wide.specs.declared.position.FilePosition.{FilePosition}
use Rattle.hunk_wide.specs.declared.spot.ShortPart.{ShortPart}
use Rattle.hunk_wide.specs.declared.spot.Spot.{Spot}
use Rattle.hunk_wide.specs.declared.spot.Spot.TheVariants.{Passing, Straight, Long, Half, Filler}
use Rattle.hunk_wide.specs.{Halves.{behind_half, half_of}, Held.Held, Longwords.{behind_long, behind_straight}, InFile.{LeadsTo, spot_after, spot_of}}
use Rattle.hunk_wide.proofs.{Cutting.take_add, Few.pending_one, Straight.{InStraight, IsPassing}, Stretches.front_cells}

-- ---- one unit

pub long_leads : (p : FilePosition) (w : ℕ) → w < 2 ^ 32 → LeadsTo (Long p) (to_be_bytes w32 w) (behind_long p w)
unfolding spot_after
long_leads p w fits more = ap (λ (n : ℕ). spot_after (behind_long p n) more) (from_be_bytes-to_be_bytes_4 w fits)

pub long_one_leads : (p : FilePosition) (w : ℕ) → w < 2 ^ 32 → LeadsTo (Long p) (bytes_of (w ∷ [])) (behind_long p w)
unfolding bytes_of
long_one_leads p w fits more = long_leads p w fits more

pub half_leads : (after : FilePosition) (part : ShortPart) (odd : Bool) (n : ℕ) → n < 2 ^ 16 → LeadsTo (Half after part odd) (to_be_bytes w16 n) (behind_half after part odd n)
unfolding spot_after
half_leads after part odd n fits more =
    let value : n / 256 % 256 * 256 + n % 256 ≡ n = omega arith in
    ap (λ (m : ℕ). spot_after (behind_half after part odd m) more) value

pub straight_leads : (owed : ℕ) (next : FilePosition) (bytes : List ℕ) → length bytes ≤ suc owed → LeadsTo (Straight owed next) bytes (behind_straight owed next (length bytes))
unfolding spot_after
straight_leads owed next [] h more = refl
straight_leads zero next (b ∷ []) h more = refl
straight_leads zero next (b ∷ c ∷ bytes) h more = absurd (omega arith)
straight_leads (suc owed) next (b ∷ bytes) h more = straight_leads owed next bytes (omega arith) more

-- ---- a byte more of a unit

pub more_leads : (s : Spot) (begun after more : List ℕ) (byte : ℕ) → after ≡ begun ++ byte ∷ [] → spot_after s (after ++ more) ≡ spot_after s (begun ++ byte ∷ more)
more_leads s begun after more byte e = ap (λ (x : List ℕ). spot_after s (x ++ more)) e ∙ ap (spot_after s) (append_assoc begun (byte ∷ []) more)

pub half_whole_leads : (after : FilePosition) (part : ShortPart) (odd : Bool) (p : Pending) (byte : ℕ) (more : List ℕ) → p.count < 2 → (p.count ≡ 0 → ⊥)
    → spot_after (behind_half after part odd (half_of p.first byte)) more ≡ spot_after (Half after part odd) (pending_of p ++ byte ∷ more)
unfolding spot_after
half_whole_leads after part odd p byte more few some = sym (ap (λ (x : List ℕ). spot_after (Half after part odd) (x ++ byte ∷ more)) (pending_one p few some))

pub filler_zero_leads : (after : FilePosition) (p : Pending) (byte : ℕ) (more : List ℕ) → p.count < 2 → (p.count ≡ 0 → ⊥) → half_of p.first byte ≡ 0
    → spot_after (Long after) more ≡ spot_after (Filler after) (pending_of p ++ byte ∷ more)
unfolding spot_after
filler_zero_leads after p byte more few some zero_is =
    sym (ap (λ (x : List ℕ). spot_after (Filler after) (x ++ byte ∷ more)) (pending_one p few some)
    ∙ ap (λ (b : Bool). spot_after (cond b (Long after) Passing) more) (eq-eqb (half_of p.first byte) 0 zero_is))

pub filler_other_leads : (after : FilePosition) (p : Pending) (byte : ℕ) (more : List ℕ) → p.count < 2 → (p.count ≡ 0 → ⊥) → (half_of p.first byte ≡ 0 → ⊥)
    → spot_after Passing more ≡ spot_after (Filler after) (pending_of p ++ byte ∷ more)
unfolding spot_after
filler_other_leads after p byte more few some not_zero =
    sym (ap (λ (x : List ℕ). spot_after (Filler after) (x ++ byte ∷ more)) (pending_one p few some)
    ∙ ap (λ (b : Bool). spot_after (cond b (Long after) Passing) more) (ne_eqb (half_of p.first byte) 0 not_zero))

-- ---- units that lie in a piece

pub two_lead : (s t u : Spot) (front back : List ℕ) → LeadsTo s front t → LeadsTo t back u → LeadsTo s (front ++ back) u
two_lead s t u front back first second more = ap (spot_after s) (append_assoc front back more) ∙ first (back ++ more) ∙ second more

pub more_lead : (s t u : Spot) (piece rest : List ℕ) (taken more_taken : ℕ) → LeadsTo s (take taken piece) t → LeadsTo t (take more_taken rest) u → rest ≡ drop taken piece → LeadsTo s (take (taken + more_taken) piece) u
more_lead s t u piece rest taken more_taken first second e more =
    ap (λ (x : List ℕ). spot_after s (x ++ more)) (take_add taken more_taken piece ∙ ap (λ (x : List ℕ). take taken piece ++ take more_taken x) (sym e))
    ∙ two_lead s t u (take taken piece) (take more_taken rest) first second more

pub passing_leads : (bytes : List ℕ) → LeadsTo Passing bytes Passing
unfolding spot_after
passing_leads bytes more = refl

pub straight_front_leads : (owed n : ℕ) (next : FilePosition) (t : Spot) (piece : List ℕ) → n ≤ length piece → n ≤ suc owed → t ≡ behind_straight owed next n → LeadsTo (Straight owed next) (take n piece) t
straight_front_leads owed n next t piece whole most b more =
    let len : length (take n piece) ≡ n = omega (arith, length-take n piece) in
    straight_leads owed next (take n piece) (omega (arith, len)) more
    ∙ ap (λ (s : Spot). spot_after s more) (ap (behind_straight owed next) len ∙ sym b)

long_front : (p : FilePosition) (piece : List ℕ) → 4 ≤ length piece → LeadsTo (Long p) (take 4 piece) (behind_long p (from_be_bytes w32 (front_cells piece)))
unfolding spot_after
long_front p (a ∷ b ∷ c ∷ d ∷ rest) whole more = refl
long_front p _ whole more = absurd (omega arith)

pub long_front_leads : (p : FilePosition) (w : ℕ) (t : Spot) (piece : List ℕ) → 4 ≤ length piece → w ≡ from_be_bytes w32 (front_cells piece) → t ≡ behind_long p w → LeadsTo (Long p) (take 4 piece) t
long_front_leads p w t piece whole e b more = long_front p piece whole more ∙ ap (λ (s : Spot). spot_after s more) (sym (b ∙ ap (behind_long p) e))

pub filler_front_leads : (after : FilePosition) (piece : List ℕ) → 2 ≤ length piece → half_of (get_or piece 0 0) (get_or piece 1 0) ≡ 0 → LeadsTo (Filler after) (take 2 piece) (Long after)
unfolding spot_after
filler_front_leads after (a ∷ b ∷ rest) whole e more = ap (λ (x : Bool). spot_after (cond x (Long after) Passing) more) (eq-eqb (half_of a b) 0 e)
filler_front_leads after _ whole e more = absurd (omega arith)

pub other_front_leads : (after : FilePosition) (piece : List ℕ) → 2 ≤ length piece → (half_of (get_or piece 0 0) (get_or piece 1 0) ≡ 0 → ⊥) → LeadsTo (Filler after) (take 2 piece) Passing
unfolding spot_after
other_front_leads after (a ∷ b ∷ rest) whole e more = ap (λ (x : Bool). spot_after (cond x (Long after) Passing) more) (ne_eqb (half_of a b) 0 e)
other_front_leads after _ whole e more = absurd (omega arith)

-- ---- bytes that went out

pub pass_leads : (ready begun bytes more : List ℕ) (owed : ℕ) (next : FilePosition) (t : Spot) → InStraight (record { ready = ready; spot = Straight owed next; begun = begun }) owed (length bytes) → t ≡ behind_straight owed next (length bytes)
    → spot_after (Straight owed next) (begun ++ (bytes ++ more)) ≡ spot_after t (begun ++ more)
pass_leads ready begun bytes more owed next t i b =
    (λ j. spot_after (Straight owed next) (i.begun j ++ (bytes ++ more)))
    ∙ straight_leads owed next bytes i.fits more
    ∙ sym (λ j. spot_after (b j) (i.begun j ++ more))

pub passing_stays : (h : Held) (bytes more : List ℕ) → IsPassing h → spot_of h (bytes ++ more) ≡ spot_of h more
unfolding spot_after
passing_stays h bytes more i =
    (λ j. spot_after (i.spot j) (i.begun j ++ (bytes ++ more)))
    ∙ sym (λ j. spot_after (i.spot j) (i.begun j ++ more))
