-- Rows of the table that are a longword each.
use Rattle.std.proofs.Common.{◌≡◌, ℕ, zero, suc, ◌+◌, ◌/◌, ◌<◌, ◌≤◌, ◌^◌, Bool, false, if◌then◌else◌, List, length, get_or, ap, subst, ◌∙◌, arith}
use Rattle.std.proofs.lemmas.Bool.{eqb-false, ne_eqb}
use Rattle.hunk_words.specs.{Bits.has_both_bits, Limits.content_limit}
use Rattle.hunk_files.specs.Passing.{AreRows, no_row, one_row}

-- Where no attributes follow the largest size word, none follow another.
pub none_below : (word largest : ℕ) → word ≤ largest → largest < 2 ^ 32 → has_both_bits largest ≡ false → has_both_bits word ≡ false
none_below word largest less bound none = ne_eqb (word / content_limit) 3 (λ e. eqb-false (largest / content_limit) 3 none (omega (arith, e, less, bound)))

-- Each of them leads to the next longword.
pub short_rows : (ws : List ℕ) (from count : ℕ) → from + count ≤ length ws → ((i : ℕ) → from ≤ i → i < from + count → has_both_bits (get_or ws i 0) ≡ false) → AreRows ws from count (from + count)
short_rows ws from zero inside short = let none : from ≡ from + 0 = omega arith in subst (λ (n : ℕ). AreRows ws from 0 n) none no_row
short_rows ws from (suc count) inside short =
    let before = short_rows ws from count (omega (arith, inside)) (λ i least less. short i least (omega (arith, less))) in
    let next : from + count + 1 ≡ from + suc count = omega arith in
    let one = ap (λ (b : Bool). from + count + (if b then 2 else 1)) (short (from + count) (omega arith) (omega arith)) ∙ next in
    subst (λ (n : ℕ). AreRows ws from (suc count) n) one (one_row count (from + count) before (omega (arith, one, inside)))
