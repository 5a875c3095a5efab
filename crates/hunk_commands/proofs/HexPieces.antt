-- The text that a decoder has taken, more of it, and what it spells.
use Rattle.std.proofs.Common.{◌≡◌, ℕ, ◌+◌, ◌*◌, ◌%◌, ◌<◌, ◌++◌, ◌∷◌, take, slice_index, slice_set, Bool, true, false, List, [], Ok, length, not, refl, sym, ap, subst, ◌∙◌, arith, append_assoc, append-nil}
use Rattle.std.proofs.lemmas.List.{Elements.filter-append, Elements.All-head, Elements.All-tail, take_more, take_more_set}
use Rattle.std.specs.List.{AllPass}
use Rattle.hex.specs.Hex.{decode_of, decode_pairs, is_hex_digit}
use Rattle.hex.proofs.HexLemmas.{decode_of-ok}
use Rattle.hunk_commands.specs.HexText.{AppendsSpelled, IsDecoded, SpellsHex, SpellsBefore, SpellsNever, is_blank, without_blanks}
use Rattle.hunk_commands.proofs.HexJoin.{decoded_joined, never_decoded}

without_append : (text more : List ℕ) → without_blanks (text ++ more) ≡ without_blanks text ++ without_blanks more
without_append text more = filter-append (λ (byte : ℕ). not (is_blank byte)) text more

-- ---- more text

digits_taken : (text bytes held run : List ℕ) → without_blanks run ≡ run → SpellsBefore text bytes held → SpellsBefore (text ++ run) bytes (held ++ run)
digits_taken text bytes held run digits before = (
  before.0,
  without_append text run ∙ ap (λ (xs : List ℕ). without_blanks text ++ xs) digits ∙ ap (λ (xs : List ℕ). xs ++ run) before.1 ∙ append_assoc before.0 held run,
  before.2,
)

never_taken : (text more : List ℕ) → SpellsNever text → SpellsNever (text ++ more)
never_taken text more never after bytes spells = never (more ++ after) bytes (subst (λ (xs : List ℕ). SpellsHex xs bytes) (append_assoc text more after) spells)

-- digits are no blanks
plain_digit : (c : ℕ) → is_hex_digit c ≡ true → not (is_blank c) ≡ true
plain_digit c digit = grind (arith)

digits_plain : (digits : List ℕ) → AllPass is_hex_digit digits → without_blanks digits ≡ digits
digits_plain [] all = refl
digits_plain (d ∷ digits) all =
    let holds : ℕ → Type 0 = λ (c : ℕ). is_hex_digit c ≡ true in
    rw (plain_digit d (All-head holds d digits all)) (ap (λ (xs : List ℕ). d ∷ xs) (digits_plain digits (All-tail holds d digits all)))

pub decoded_plain : (digits bytes : List ℕ) → decode_of digits ≡ Ok bytes → without_blanks digits ≡ digits
decoded_plain digits bytes decoded = digits_plain digits (decode_of-ok digits bytes decoded).1

pub digit_plain : (digit : ℕ) → is_blank digit ≡ false → without_blanks (digit ∷ []) ≡ digit ∷ []
digit_plain digit plain = rw plain refl

-- ---- the held digits are decoded

pub held_decoded : (text bytes held more : List ℕ) → SpellsBefore text bytes held → decode_of held ≡ Ok more → SpellsBefore text (bytes ++ more) []
held_decoded text bytes held more before decoded =
    (before.0 ++ held, before.1 ∙ sym (append-nil (before.0 ++ held)), decoded_joined before.0 held bytes more before.2 decoded)

pub held_refused : (text bytes held : List ℕ) → SpellsBefore text bytes held → length held % 2 ≡ 0 → ((more : List ℕ) → ¬ (decode_of held ≡ Ok more)) → SpellsNever text
held_refused text bytes held before even none more all spells =
    let split : without_blanks (text ++ more) ≡ before.0 ++ (held ++ without_blanks more) =
    without_append text more ∙ ap (λ (xs : List ℕ). xs ++ without_blanks more) before.1 ∙ append_assoc before.0 held (without_blanks more) in
    never_decoded before.0 held (without_blanks more) all even none (ap decode_of (sym split) ∙ spells)

-- ---- the end

pub none_ever : (text : List ℕ) → SpellsNever text → (all : List ℕ) → ¬ SpellsHex text all
none_ever text never all spells = never [] all (subst (λ (xs : List ℕ). SpellsHex xs all) (sym (append-nil text)) spells)

-- ---- what a decoder knows

pub nothing_decoded : decode_of [] ≡ Ok []
unfolding decode_pairs
nothing_decoded = refl

pub nothing_taken : (text bytes held : List ℕ) → text ≡ [] → bytes ≡ [] → held ≡ [] → SpellsBefore text bytes held
nothing_taken text bytes held t b h = rw (t, b, h) ([], refl, nothing_decoded)

pub digits_kept : (refused : Bool) (text bytes held run : List ℕ) → without_blanks run ≡ run → IsDecoded refused text bytes held → IsDecoded refused (text ++ run) bytes (held ++ run)
digits_kept true text bytes held run digits known = never_taken text run known
digits_kept false text bytes held run digits known = digits_taken text bytes held run digits known

pub room_made : (refused spelled : Bool) (text bytes held new : List ℕ) → refused ≡ false → length held % 2 ≡ 0 → IsDecoded refused text bytes held → AppendsSpelled spelled held bytes new → IsDecoded (not spelled) text new []
room_made true spelled text bytes held new is even known appended = cc is
room_made false true text bytes held new is even known appended =
    subst (λ (xs : List ℕ). SpellsBefore text xs []) (sym appended.2) (held_decoded text bytes held appended.0 known appended.1)
room_made false false text bytes held new is even known none = held_refused text bytes held known even none

pub refused_before : (refused : Bool) (text bytes held : List ℕ) → refused ≡ true → IsDecoded refused text bytes held → (all : List ℕ) → ¬ SpellsHex text all
refused_before true text bytes held is known = none_ever text known
refused_before false text bytes held is known = cc is

-- ---- pairs that are decoded from a text in place

pub pair_joined : (text room : List ℕ) (i byte : ℕ) → 2 * i + 1 < length text → i < length room → decode_of (take (2 * i) text) ≡ Ok (take i room)
    → decode_of (slice_index text (2 * i) ∷ slice_index text (2 * i + 1) ∷ []) ≡ Ok (byte ∷ []) → decode_of (take (2 * (i + 1)) text) ≡ Ok (take (i + 1) (slice_set room i byte))
pair_joined text room i byte inside fits before pair =
    let a = slice_index text (2 * i) in
    let b = slice_index text (2 * i + 1) in
    let two : 2 * (i + 1) ≡ 2 * i + 1 + 1 = omega arith in
    let first = take_more text (2 * i) 0 (omega arith) in
    let second = take_more text (2 * i + 1) 0 inside in
    let front : take (2 * (i + 1)) text ≡ take (2 * i) text ++ (a ∷ b ∷ []) =
    ap (λ (n : ℕ). take n text) two ∙ second ∙ ap (λ (xs : List ℕ). xs ++ b ∷ []) first ∙ append_assoc (take (2 * i) text) (a ∷ []) (b ∷ []) in
    ap decode_of front ∙ decoded_joined (take (2 * i) text) (a ∷ b ∷ []) (take i room) (byte ∷ []) before pair ∙ ap Ok (sym (take_more_set room i byte fits))

-- ---- a byte of text, and pairs

-- the first byte of a text
first_byte : (text : List ℕ) → 0 < length text → take 1 text ≡ slice_index text 0 ∷ []
first_byte [] some = absurd (omega (arith, some))
first_byte (b ∷ text) some = refl

-- a blank stands for nothing
blank_plain : (byte : ℕ) → is_blank byte ≡ true → without_blanks (byte ∷ []) ≡ []
blank_plain byte blank = rw blank refl

blank_before : (text bytes held : List ℕ) (byte : ℕ) → is_blank byte ≡ true → SpellsBefore text bytes held → SpellsBefore (text ++ byte ∷ []) bytes held
blank_before text bytes held byte blank before = (
  before.0,
  without_append text (byte ∷ []) ∙ ap (λ (xs : List ℕ). without_blanks text ++ xs) (blank_plain byte blank) ∙ append-nil (without_blanks text) ∙ before.1,
  before.2,
)

pub blank_kept : (refused : Bool) (text bytes held more : List ℕ) → 0 < length more → is_blank (slice_index more 0) ≡ true → IsDecoded refused text bytes held → IsDecoded refused (text ++ take 1 more) bytes held
blank_kept refused text bytes held more some blank known = rw (first_byte more some) (go refused known)
  where
    go : (r : Bool) → IsDecoded r text bytes held → IsDecoded r (text ++ slice_index more 0 ∷ []) bytes held
    go true known = never_taken text (slice_index more 0 ∷ []) known
    go false known = blank_before text bytes held (slice_index more 0) blank known

pub digit_held : (refused : Bool) (text bytes held more : List ℕ) → 0 < length more → is_blank (slice_index more 0) ≡ false → IsDecoded refused text bytes held →
    IsDecoded refused (text ++ take 1 more) bytes (held ++ slice_index more 0 ∷ [])
digit_held refused text bytes held more some plain known =
    rw (first_byte more some) (digits_kept refused text bytes held (slice_index more 0 ∷ []) (digit_plain (slice_index more 0) plain) known)

-- pairs of digits in front of what comes, where none is held
pub pairs_taken : (refused : Bool) (text bytes held run new : List ℕ) → refused ≡ false → held ≡ [] → length run % 2 ≡ 0 → without_blanks run ≡ run → AppendsSpelled true run bytes new → IsDecoded refused text bytes held →
    IsDecoded refused (text ++ run) new held
pairs_taken true text bytes held run new is none even plain spelled known = cc is
pairs_taken false text bytes held run new is none even plain spelled known =
    let kept = digits_taken text bytes held run plain known in
    let all : SpellsBefore (text ++ run) bytes run = subst (λ (xs : List ℕ). SpellsBefore (text ++ run) bytes (xs ++ run)) none kept in
    subst (λ (xs : List ℕ). SpellsBefore (text ++ run) new xs) (sym none)
    (subst (λ (xs : List ℕ). SpellsBefore (text ++ run) xs []) (sym spelled.2) (held_decoded (text ++ run) bytes run spelled.0 all spelled.1))
