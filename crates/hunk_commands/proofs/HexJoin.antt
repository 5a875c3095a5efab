-- Hexadecimal digits that are decoded in pieces.
use Rattle.std.proofs.Common.{true, ◌≡◌, ℕ, ◌+◌, ◌%◌, ◌++◌, List, [], ◌∷◌, length, Option, Some, None, Result, Ok, Err, refl, sym, ap, ◌∙◌, arith, length-append}
use Rattle.std.specs.{List.AllPass, Result.result_unwrap_or}
use Rattle.std.proofs.lemmas.List.Elements.{All-cons, All-head, All-nil, All-tail}
use Rattle.hex.specs.Hex.{decode_of, decode_pairs, digit_or_error, hex_digit_value, is_hex_digit, pair_value, value_at, ◌>>=◌}
use Rattle.hex.specs.declared.error.FromHexError.{FromHexError}
use Rattle.hex.proofs.{HexLemmas.{decode_of-digits, decode_of-even, decode_of-ok}, Pairs.{cons_byte, decode_pairs-ok_pair}}

-- what an `Ok` after `>>=` shows
bind_ok : {A B : Type 0} (r : Result A FromHexError) (f : A → Result B FromHexError) (y : B)
    → (r >>= f) ≡ Ok y → (x : A) × (r ≡ Ok x) × (f x ≡ Ok y)
bind_ok (Ok x) f y h = (x, refl, h)
bind_ok (Err e) f y h = cc h

-- ---- digits read the same at any place

digit_moved : (c i j : ℕ) (o : Option ℕ) (v : ℕ) → digit_or_error c i o ≡ Ok v → digit_or_error c j o ≡ Ok v
digit_moved c i j (Some w) v h = h
digit_moved c i j None v h = cc h

pair_moved : (high low i j v : ℕ) → pair_value high low i ≡ Ok v → pair_value high low j ≡ Ok v
pair_moved high low i j v h =
    let first = bind_ok (value_at high i) _ v h in
    let second = bind_ok (value_at low (i + 1)) _ v first.2 in
    let a : value_at high j ≡ Ok first.0 = digit_moved high i j (hex_digit_value high) first.0 first.1 in
    let b : value_at low (j + 1) ≡ Ok second.0 = digit_moved low (i + 1) (j + 1) (hex_digit_value low) second.0 second.1 in
    rw (a, b) second.2

pairs_moved : (i j : ℕ) (digits bytes : List ℕ) → decode_pairs i digits ≡ Ok bytes → decode_pairs j digits ≡ Ok bytes
unfolding decode_pairs
pairs_moved i j [] bytes h = h
pairs_moved i j (a ∷ []) bytes h = cc h
pairs_moved i j (a ∷ b ∷ rest) bytes h =
    let pair = bind_ok (pair_value a b i) _ bytes h in
    let next = bind_ok (decode_pairs (i + 2) rest) _ bytes pair.2 in
    decode_pairs-ok_pair j a b pair.0 rest (pair_moved a b i j pair.0 pair.1)
    ∙ ap (cons_byte pair.0) (pairs_moved (i + 2) (j + 2) rest next.0 next.1) ∙ next.2

-- ---- digits after digits

pairs_joined : (i : ℕ) (front back xs ys : List ℕ) → decode_pairs i front ≡ Ok xs → decode_pairs 0 back ≡ Ok ys → decode_pairs i (front ++ back) ≡ Ok (xs ++ ys)
unfolding decode_pairs
pairs_joined i [] back xs ys h k =
    let none : [] ≡ xs = ap (λ (r : Result (List ℕ) FromHexError). result_unwrap_or r []) h in
    pairs_moved 0 i back ys k ∙ ap (λ (bytes : List ℕ). Ok (bytes ++ ys)) none
pairs_joined i (a ∷ []) back xs ys h k = cc h
pairs_joined i (a ∷ b ∷ rest) back xs ys h k =
    let pair = bind_ok (pair_value a b i) _ xs h in
    let next = bind_ok (decode_pairs (i + 2) rest) _ xs pair.2 in
    let whole : pair.0 ∷ next.0 ≡ xs = ap (λ (r : Result (List ℕ) FromHexError). result_unwrap_or r []) next.2 in
    decode_pairs-ok_pair i a b pair.0 (rest ++ back) pair.1
    ∙ ap (cons_byte pair.0) (pairs_joined (i + 2) rest back next.0 ys next.1 k) ∙ ap (λ (bytes : List ℕ). Ok (bytes ++ ys)) whole

pub decoded_joined : (front back xs ys : List ℕ) → decode_of front ≡ Ok xs → decode_of back ≡ Ok ys → decode_of (front ++ back) ≡ Ok (xs ++ ys)
decoded_joined front back xs ys h k =
    let a = decode_of-ok front xs h in
    let b = decode_of-ok back ys k in
    decode_of-even (front ++ back) (omega (arith, length-append front back, a.0, b.0))
    ∙ pairs_joined 0 front back xs ys (sym (decode_of-even front a.0) ∙ h) (sym (decode_of-even back b.0) ∙ k)

-- ---- digits that do not decode

digits_first : (xs ys : List ℕ) → AllPass is_hex_digit (xs ++ ys) → AllPass is_hex_digit xs
digits_first [] ys h = All-nil (λ (c : ℕ). is_hex_digit c ≡ true)
digits_first (x ∷ xs) ys h =
    let digit : ℕ → Type 0 = λ (c : ℕ). is_hex_digit c ≡ true in
    All-cons digit x xs (All-head digit x (xs ++ ys) h) (digits_first xs ys (All-tail digit x (xs ++ ys) h))

digits_after : (xs ys : List ℕ) → AllPass is_hex_digit (xs ++ ys) → AllPass is_hex_digit ys
digits_after [] ys h = h
digits_after (x ∷ xs) ys h = digits_after xs ys (All-tail (λ (c : ℕ). is_hex_digit c ≡ true) x (xs ++ ys) h)

-- pairs of digits that do not decode are in no text that does
pub never_decoded : (front held back bytes : List ℕ) → length held % 2 ≡ 0 → ((more : List ℕ) → ¬ (decode_of held ≡ Ok more)) → ¬ (decode_of (front ++ (held ++ back)) ≡ Ok bytes)
never_decoded front held back bytes even none h =
    let all = (decode_of-ok (front ++ (held ++ back)) bytes h).1 in
    let got = decode_of-digits held even (digits_first held back (digits_after front (held ++ back) all)) in
    none got.0 got.1
