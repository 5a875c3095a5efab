-- How many digits a number has.
use Rattle.std.proofs.Common.{◌≡◌, ℕ, zero, suc, ◌+◌, ◌*◌, ◌/◌, ◌%◌, ◌^◌, ◌<◌, ◌≤◌, List, [], ◌∷◌, ◌++◌, length, take, drop, sym, ap, ap₂, ◌∙◌, append_assoc, length-append, arith}
use Rattle.std.specs.Prelude.{decimal}
use Rattle.std.proofs.lemmas.Fmt.{decimal_digit, decimal_step}
use Rattle.std.proofs.lemmas.List.{length-take-le, take-append-drop, take_at}

pub length_digit : (n : ℕ) → n < 10 → length (decimal n) ≡ 1
length_digit n small = ap length (decimal_digit n small)

-- one more than its logarithm
pub length_power : (k n : ℕ) → 10 ^ k ≤ n → n < 10 * 10 ^ k → n < 2 ^ 64 → length (decimal n) ≡ k + 1
length_power zero n more few fits = length_digit n (omega (arith, few))
length_power (suc k) n more few fits =
    let step = ap length (decimal_step n (omega (arith, more)) fits) ∙ length-append (decimal (n / 10)) ((48 + n % 10) ∷ []) in
    omega (arith, step, length_power k (n / 10) (omega (arith, more)) (omega (arith, few)) (omega (arith, fits)))

-- A line's first bytes stay, and digits were written after them.
pub put_at_end : (before after line digits rest : List ℕ) (len at count : ℕ) → take len before ≡ line → len ≤ length before → at + count ≡ len + count → length digits ≡ count →
    take at after ≡ take at before → drop at after ≡ digits ++ rest → take (len + count) after ≡ line ++ digits
put_at_end before after line digits rest len at count is within ends counted same rest_is =
    let front : take at after ≡ line = same ∙ ap (λ (k : ℕ). take k before) (omega (arith, ends)) ∙ is in
    let whole : after ≡ (line ++ digits) ++ rest = sym (take-append-drop at after) ∙ ap₂ (λ (xs ys : List ℕ). xs ++ ys) front rest_is ∙ sym (append_assoc line digits rest) in
    ap (take (len + count)) whole ∙ take_at (line ++ digits) rest (len + count) (omega (arith, length-append line digits, length-take-le len before within, ap length is, counted))
