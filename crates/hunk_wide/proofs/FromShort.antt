-- From which bytes the numbers of a RELOC32 block come, where its word comes from that of a short block.
use Rattle.std.proofs.Common.{◌≡◌, ◌≢◌, ℕ, suc, ◌/◌, ◌%◌, ◌^◌, ◌<◌, Bool, true, false, not, cond, eqb, List, [], ◌∷◌, ◌++◌, length, get_or, refl, sym, ap, subst, ◌∙◌, append_assoc, arith}
use Rattle.std.specs.{Int.{to_be_bytes, w16, w32}, List.{flat_map, AllByRecursion}}
use Rattle.std.proofs.lemmas.Bool.{eqb-true}
use Rattle.hunk_words.specs.Longs.{AreLongs, bytes_of}
use Rattle.hunk_words.proofs.LongLaws.{bytes_of-append}
use Rattle.hunk_blocks.specs.{Parts.{group_text, list_text}, Values.{IsGroup, RelocGroup}}
use Rattle.hunk_blocks.proofs.PartTexts.{group_text_is}
use Rattle.hunk_wide.specs.declared.position.FilePosition.{FilePosition}
use Rattle.hunk_wide.specs.declared.spot.ShortPart.{ShortPart}
use Rattle.hunk_wide.specs.declared.spot.ShortPart.TheVariants.{Count, Target, Offset}
use Rattle.hunk_wide.specs.declared.spot.Spot.{Spot}
use Rattle.hunk_wide.specs.declared.spot.Spot.TheVariants.{Passing, Long, Half, Filler}
use Rattle.hunk_wide.specs.Halves.{behind_half, half_of}
use Rattle.hunk_wide.specs.Plain.{plain_from}
use Rattle.hunk_wide.specs.Spellings.{counted, ends_from, short_blocks_from}
use Rattle.hunk_wide.specs.Wide.{IsHalf, filled, halves_of, parity}
use Rattle.hunk_wide.proofs.{From.{Comes, back4, comes_as, none_comes, two_come}, FromWords.same_word, Short.{filled_is, halves-append, parity-append, tail}}

-- ---- numbers

-- The number fits 16 bits, and comes from a word of so many.
record HalfComes (s t : Spot) (n : ℕ) (input more : List ℕ) : Type 0 where
  fits : IsHalf n
  comes : Comes s t input more (to_be_bytes w16 n) 0 0

half_comes : (after : FilePosition) (part : ShortPart) (odd : Bool) (n : ℕ) (input more : List ℕ) → n < 2 ^ 32 → plain_from (Half after part odd) input ≡ to_be_bytes w32 n ++ more
    → HalfComes (Half after part odd) (behind_half after part odd n) n input more
unfolding plain_from counted
half_comes after part odd n [] more fits e = absurd (omega (arith, ap length e))
half_comes after part odd n (a ∷ []) more fits e = absurd (omega (arith, ap length e))
half_comes after part odd n (a ∷ b ∷ rest) more fits e =
    let e0 : 0 ≡ n / 16777216 % 256 = ap (λ (x : List ℕ). get_or x 0 0) e in
    let e1 : 0 ≡ n / 65536 % 256 = ap (λ (x : List ℕ). get_or x 1 0) e in
    let e2 : a ≡ n / 256 % 256 = ap (λ (x : List ℕ). get_or x 2 0) e in
    let e3 : b ≡ n % 256 = ap (λ (x : List ℕ). get_or x 3 0) e in
    let few : n < 2 ^ 16 = omega (arith, e0, e1, fits) in
    let value : half_of a b ≡ n = omega (arith, e2, e3, few) in
    record {
      fits = few;
      comes = record {
        back = rest;
        split = λ j. e2 j ∷ e3 j ∷ rest;
        gives = ap (λ (m : ℕ). plain_from (behind_half after part odd m) rest) (sym value) ∙ ap back4 e;
        shorts_are = omega (arith, ap (λ (m : ℕ). short_blocks_from (behind_half after part odd m) rest) value);
        ends_are = omega (arith, ap (λ (m : ℕ). ends_from (behind_half after part odd m) rest) value);
      };
    }

-- These numbers fit 16 bits each, and come from as many words.
record HalvesCome (s t : Spot) (ns : List ℕ) (input more : List ℕ) : Type 0 where
  fit : AllByRecursion IsHalf ns
  comes : Comes s t input more (halves_of ns) 0 0

pub All-both : {A : Type 0} (P : A → Type 0) (xs ys : List A) → AllByRecursion P xs → AllByRecursion P ys → AllByRecursion P (xs ++ ys)
All-both P [] ys h k = k
All-both P (x ∷ xs) ys h k = (h.0, All-both P xs ys h.1 k)

one_more : (s t u : Spot) (n : ℕ) (ns input mid more : List ℕ) (h : HalfComes s t n input mid) → HalvesCome t u ns h.comes.back more → HalvesCome s u (n ∷ ns) input more
one_more s t u n ns input mid more h later = record {
  fit = (h.fits, later.fit);
  comes = two_come s t u input mid more (to_be_bytes w16 n) (halves_of ns) 0 0 0 0 h.comes later.comes;
}

module _ (after : FilePosition) where
  abbrev at : ShortPart → Bool → Spot
  at part odd = Half after part odd

  no_more : (odd : Bool) (input more : List ℕ) → plain_from (at Count odd) input ≡ more → HalvesCome (at Count odd) (at Count odd) [] input more
  no_more odd input more e = record { fit = tt; comes = none_comes (at Count odd) (at Count odd) input more refl e }

  offsets_come : (odd : Bool) (n : ℕ) (ns input more : List ℕ) → AreLongs (n ∷ ns) → plain_from (at (Offset (length ns)) odd) input ≡ bytes_of (n ∷ ns) ++ more
      → HalvesCome (at (Offset (length ns)) odd) (at Count (parity odd (n ∷ ns))) (n ∷ ns) input more
  unfolding bytes_of
  offsets_come odd n [] input more fit e =
      let h = half_comes after (Offset 0) odd n input more fit.0 e in
      one_more (at (Offset 0) odd) (at Count (not odd)) (at Count (not odd)) n [] input more more h (no_more (not odd) h.comes.back more h.comes.gives)
  offsets_come odd n (m ∷ ns) input more fit e =
      let h = half_comes after (Offset (suc (length ns))) odd n input (bytes_of (m ∷ ns) ++ more) fit.0 e in
      one_more (at (Offset (suc (length ns))) odd) (at (Offset (length ns)) (not odd)) (at Count (parity odd (n ∷ m ∷ ns))) n (m ∷ ns) input (bytes_of (m ∷ ns) ++ more) more h
      (offsets_come (not odd) m ns h.comes.back more fit.1 h.comes.gives)

  numbers_come : (odd : Bool) (t : ℕ) (ns input more : List ℕ) → ns ≢ [] → AreLongs (length ns ∷ t ∷ ns) → plain_from (at Count odd) input ≡ bytes_of (length ns ∷ t ∷ ns) ++ more
      → HalvesCome (at Count odd) (at Count (parity odd (length ns ∷ t ∷ ns))) (length ns ∷ t ∷ ns) input more
  unfolding bytes_of
  numbers_come odd t [] input more some fit e = absurd (some refl)
  numbers_come odd t (n ∷ ns) input more some fit e =
      let h = half_comes after Count odd (suc (length ns)) input (bytes_of (t ∷ n ∷ ns) ++ more) fit.0 e in
      let k = half_comes after (Target (length ns)) (not odd) t h.comes.back (bytes_of (n ∷ ns) ++ more) fit.1.0 h.comes.gives in
      one_more (at Count odd) (at (Target (length ns)) (not odd)) (at Count (parity odd (suc (length ns) ∷ t ∷ n ∷ ns))) (suc (length ns)) (t ∷ n ∷ ns) input (bytes_of (t ∷ n ∷ ns) ++ more) more h
      (one_more (at (Target (length ns)) (not odd)) (at (Offset (length ns)) (not (not odd))) (at Count (parity odd (suc (length ns) ∷ t ∷ n ∷ ns))) t (n ∷ ns) h.comes.back (bytes_of (n ∷ ns) ++ more) more k
      (offsets_come (not (not odd)) n ns k.comes.back more fit.1.1 k.comes.gives))

  abbrev GroupComes : Bool → List ℕ → List ℕ → List ℕ → Type 0
  GroupComes odd ns input more = plain_from (at Count odd) input ≡ bytes_of ns ++ more → HalvesCome (at Count odd) (at Count (parity odd ns)) ns input more

  group_comes : (odd : Bool) (g : RelocGroup) (input more : List ℕ) → IsGroup g → GroupComes odd (group_text g) input more
  group_comes odd g input more is =
      subst (λ (ns : List ℕ). GroupComes odd ns input more) (sym (group_text_is g))
      (numbers_come odd g.target g.offsets input more is.some (is.offsets.0, (is.target, is.offsets.1)))

  groups_come : (odd : Bool) (gs : List RelocGroup) (input more : List ℕ) → AllByRecursion IsGroup gs → GroupComes odd (flat_map group_text gs) input more
  unfolding bytes_of
  groups_come odd [] input more is e = no_more odd input more e
  groups_come odd (g ∷ gs) input more is e =
      let xs : List ℕ = group_text g in
      let ys : List ℕ = flat_map group_text gs in
      let cut : bytes_of (xs ++ ys) ++ more ≡ bytes_of xs ++ (bytes_of ys ++ more) = ap (λ (b : List ℕ). b ++ more) (bytes_of-append xs ys) ∙ append_assoc (bytes_of xs) (bytes_of ys) more in
      let first = group_comes odd g input (bytes_of ys ++ more) is.0 (e ∙ cut) in
      let later = groups_come (parity odd xs) gs first.comes.back more is.1 first.comes.gives in
      record {
        fit = All-both IsHalf xs ys first.fit later.fit;
        comes = comes_as (at Count odd) (at Count (parity (parity odd xs) ys)) (at Count (parity odd (xs ++ ys))) input more (halves_of xs ++ halves_of ys) (halves_of (xs ++ ys)) 0 0
            (ap (at Count) (sym (parity-append odd xs ys))) (sym (halves-append xs ys))
            (two_come (at Count odd) (at Count (parity odd xs)) (at Count (parity (parity odd xs) ys)) input (bytes_of ys ++ more) more (halves_of xs) (halves_of ys) 0 0 0 0 first.comes later.comes);
      }

-- ---- the end of the block

-- A longword comes next, which is not the word of a short block.
pub record NextWord (more : List ℕ) : Type 0 where
  pub word : ℕ
  pub back : List ℕ
  pub split : more ≡ to_be_bytes w32 word ++ back
  pub fits : word < 2 ^ 32
  pub other : word ≡ 0x3FC → ⊥

filler_comes : (after : FilePosition) (input more : List ℕ) → NextWord more → plain_from (Filler after) input ≡ more → Comes (Filler after) (Long after) input more (0 ∷ 0 ∷ []) 0 0
unfolding plain_from counted
filler_comes after [] more next e = absurd (omega (arith, ap length (e ∙ next.split)))
filler_comes after (a ∷ []) more next e = absurd (omega (arith, ap length (e ∙ next.split)))
filler_comes after (a ∷ b ∷ rest) more next e = go (eqb (half_of a b) 0) refl e
  where
    go : (x : Bool) → eqb (half_of a b) 0 ≡ x → cond x [] (0 ∷ 0 ∷ 3 ∷ 252 ∷ a ∷ b ∷ []) ++ plain_from (cond x (Long after) Passing) rest ≡ more
        → Comes (Filler after) (Long after) (a ∷ b ∷ rest) more (0 ∷ 0 ∷ []) 0 0
    go true f e =
        let none : half_of a b ≡ 0 = eqb-true (half_of a b) 0 f in
        let a0 : a ≡ 0 = omega (arith, none) in
        let b0 : b ≡ 0 = omega (arith, none) in
        record {
          back = rest;
          split = λ j. a0 j ∷ b0 j ∷ rest;
          gives = e;
          shorts_are = omega (arith, ap (λ (y : Bool). short_blocks_from (cond y (Long after) Passing) rest) f);
          ends_are = omega (arith, ap (λ (y : Bool). ends_from (cond y (Long after) Passing) rest) f);
        }
    go false f e = absurd (next.other (sym (same_word 0x3FC next.word (a ∷ b ∷ plain_from Passing rest) next.back (omega arith) next.fits (e ∙ next.split))))

tail_comes : (after : FilePosition) (odd : Bool) (input more : List ℕ) → NextWord more → plain_from (Half after Count odd) input ≡ bytes_of (0 ∷ []) ++ more
    → Comes (Half after Count odd) (Long after) input more (halves_of (tail odd)) 0 0
unfolding bytes_of
tail_comes after true input more next e = (half_comes after Count true 0 input more (omega arith) e).comes
tail_comes after false input more next e =
    let h = half_comes after Count false 0 input more (omega arith) e in
    two_come (Half after Count false) (Filler after) (Long after) input more more (0 ∷ 0 ∷ []) (0 ∷ 0 ∷ []) 0 0 0 0 h.comes (filler_comes after h.comes.back more next h.comes.gives)

-- All numbers of a block come from words of 16 bits, filled up to a longword.
pub record ListComes (after : FilePosition) (gs : List RelocGroup) (input more : List ℕ) : Type 0 where
  pub fit : AllByRecursion IsHalf (list_text group_text gs)
  pub comes : Comes (Half after Count false) (Long after) input more (halves_of (filled (list_text group_text gs))) 0 0

pub list_comes : (after : FilePosition) (gs : List RelocGroup) (input more : List ℕ) → AllByRecursion IsGroup gs → NextWord more
    → plain_from (Half after Count false) input ≡ bytes_of (list_text group_text gs) ++ more
    → ListComes after gs input more
list_comes after gs input more is next e =
    let ns : List ℕ = flat_map group_text gs in
    let cut : bytes_of (ns ++ 0 ∷ []) ++ more ≡ bytes_of ns ++ (bytes_of (0 ∷ []) ++ more) = ap (λ (b : List ℕ). b ++ more) (bytes_of-append ns (0 ∷ [])) ∙ append_assoc (bytes_of ns) (bytes_of (0 ∷ [])) more in
    let first = groups_come after false gs input (bytes_of (0 ∷ []) ++ more) is (e ∙ cut) in
    let last = tail_comes after (parity false ns) first.comes.back more next first.comes.gives in
    record {
      fit = All-both IsHalf ns (0 ∷ []) first.fit (omega arith, tt);
      comes = comes_as (Half after Count false) (Long after) (Long after) input more (halves_of ns ++ halves_of (tail (parity false ns))) (halves_of (filled (list_text group_text gs))) 0 0 refl
          (sym (ap halves_of (filled_is ns) ∙ halves-append ns (tail (parity false ns))))
          (two_come (Half after Count false) (Half after Count (parity false ns)) (Long after) input (bytes_of (0 ∷ []) ++ more) more (halves_of ns) (halves_of (tail (parity false ns))) 0 0 0 0 first.comes last);
    }
