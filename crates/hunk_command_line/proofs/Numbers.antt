-- What the readers of HEX and N rest on.
use Rattle.std.proofs.Common.{◌≡◌, ◌==◌, ◌&&◌, ◌<◌, ◌∙◌, ◌^◌, ℕ, Bool, List, [], ◌∷◌, length, slice_index, true, false, nat_lt, arith, Result, Ok, Err, Some, None, ap, sym, subst, refl}
use Rattle.std.specs.Result.{result_ok}
use Rattle.std.specs.Str.Parse.{AllDigits, IsNumeral, ParsesUnsigned, digits_value, without_leading_plus}
use Rattle.std.specs.Char.{digit_value}
use Rattle.std.proofs.lemmas.Bool.{lt-ltb, ltb-true}
use Rattle.std.proofs.lemmas.Int.Digits.{digits_value-lt}
use Rattle.clap.proofs.WalkLemmas.{both}
use Rattle.hunk_command_line.specs.Line.{are_digits, base_spelled, budget_spelled}

no_plus : (bs : List ℕ) → (slice_index bs 0 == 43) ≡ false → without_leading_plus bs ≡ bs
no_plus bs e = rw e refl

digits_pass : (radix : ℕ) (bs : List ℕ) → AllDigits radix bs → are_digits radix bs ≡ true
digits_pass radix [] h = refl
digits_pass radix (c ∷ cs) h = rw (lt-ltb (digit_value c) radix h.0) (digits_pass radix cs h.1)

digits_from : (radix : ℕ) (bs : List ℕ) → are_digits radix bs ≡ true → AllDigits radix bs
digits_from radix [] e = tt
digits_from radix (c ∷ cs) e = let parts = both _ _ e in (ltb-true _ _ parts.0, digits_from radix cs parts.1)

eight_fit : (bs : List ℕ) → length bs ≡ 8 → AllDigits 16 bs → digits_value 16 bs < 2 ^ 32
eight_fit bs len all = let below = digits_value-lt 16 bs all in rw len at below

pub base_read : {E : Type 0} (bs : List ℕ) (r : Result ℕ E) → (slice_index bs 0 == 43) ≡ false → length bs ≡ 8 → ParsesUnsigned 32 16 bs r → result_ok r ≡ base_spelled bs
base_read bs (Ok n) plain len parses =
    let same = no_plus bs plain in
    let numeral = subst (λ (ds : List ℕ). IsNumeral 16 ds) same parses.0.0 in
    rw (len, digits_pass 16 bs numeral.1) (ap Some (parses.1 ∙ ap (digits_value 16) same))
base_read bs (Err e) plain len parses = go (are_digits 16 bs) refl
  where
    go : (b : Bool) → are_digits 16 bs ≡ b → None ≡ base_spelled bs
    go false t = rw (len, t) refl
    go true t =
        let all = digits_from 16 bs t in
        absurd (parses (subst (λ (ds : List ℕ). IsNumeral 16 ds × (digits_value 16 ds < 2 ^ 32)) (sym (no_plus bs plain)) ((omega arith, all), eight_fit bs len all)))

pub budget_read : {E : Type 0} (bs : List ℕ) (r : Result ℕ E) → (slice_index bs 0 == 43) ≡ false → ParsesUnsigned 64 10 bs r → result_ok r ≡ budget_spelled bs
budget_read bs (Ok n) plain parses =
    let same = no_plus bs plain in
    let given = subst (λ (ds : List ℕ). IsNumeral 10 ds × (digits_value 10 ds < 2 ^ 64)) same parses.0 in
    rw (lt-ltb 0 (length bs) given.0.0, digits_pass 10 bs given.0.1, lt-ltb (digits_value 10 bs) (2 ^ 64) given.1) (ap Some (parses.1 ∙ ap (digits_value 10) same))
budget_read bs (Err e) plain parses = go (nat_lt 0 (length bs) && are_digits 10 bs && nat_lt (digits_value 10 bs) (2 ^ 64)) refl
  where
    go : (b : Bool) → (nat_lt 0 (length bs) && are_digits 10 bs && nat_lt (digits_value 10 bs) (2 ^ 64)) ≡ b → None ≡ budget_spelled bs
    go false t = rw t refl
    go true t =
        let outer = both _ _ t in
        let inner = both _ _ outer.0 in
        absurd (parses (subst (λ (ds : List ℕ). IsNumeral 10 ds × (digits_value 10 ds < 2 ^ 64)) (sym (no_plus bs plain)) ((ltb-true _ _ inner.0, digits_from 10 bs inner.1), ltb-true _ _ outer.1)))
