-- The table of digits has the value of each.
use Rattle.std.proofs.Common.{◌≡◌, ℕ, zero, suc, ◌+◌, ◌-◌, ◌*◌, ◌<◌, ◌≤◌, Bool, true, ◌&&◌, T, eqb, slice_index, [], ◌∷◌, Ok, Option, Some, None, inl, inr, arith, eq-zero-or-pos, eqb→eq, refl, ap, ◌∙◌, sym}
use lib.Ieee.Fits.{and_l, and_r}
use Rattle.hex.specs.Hex.{decode_of, decode_pairs, hex_digit_value}
use Rattle.hunk_commands.specs.declared.hex_text.TheConstants.{VALUES}

-- a digit's value, or 255
abbrev value_or : Option ℕ → ℕ
value_or (Some v) = v
value_or None = 255

abbrev are_values : ℕ → Bool
are_values zero = true
are_values (suc c) = eqb (slice_index VALUES c) (value_or (hex_digit_value c)) && are_values c

below : (n c : ℕ) → T (are_values n) → c < n → slice_index VALUES c ≡ value_or (hex_digit_value c)
below zero c t h = absurd (omega arith)
below (suc n) c t h =
    elim (eq-zero-or-pos (n - c)) [
      | inl z ↦ let e : c ≡ n = omega arith in rw e (eqb→eq _ _ (and_l _ (are_values n) t))
      | inr g ↦ below n c (and_r _ (are_values n) t) (omega arith)
    ]

pub value_of_byte : (c : ℕ) → c < 256 → slice_index VALUES c ≡ value_or (hex_digit_value c)
value_of_byte c h = below 256 c tt h

-- a value of at most 15 is a digit's
some_value : (o : Option ℕ) (v : ℕ) → v ≡ value_or o → v ≤ 15 → o ≡ Some v
some_value (Some w) v is few = ap Some (sym is)
some_value None v is few = absurd (omega (arith, is, few))

-- two digits are a pair of their values
pub pair_decoded : (a b high low : ℕ) → a < 256 → b < 256 → high ≡ slice_index VALUES a → low ≡ slice_index VALUES b → high ≤ 15 → low ≤ 15 →
    decode_of (a ∷ b ∷ []) ≡ Ok ((high * 16 + low) ∷ [])
unfolding decode_pairs
pair_decoded a b high low ha hb first second fh fl =
    let x = some_value (hex_digit_value a) high (first ∙ value_of_byte a ha) fh in
    let y = some_value (hex_digit_value b) low (second ∙ value_of_byte b hb) fl in
    rw (x, y) refl
