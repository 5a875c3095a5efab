-- The texts of a block's parts, field by field.
use Rattle.std.proofs.Common.{rules, ◌≡◌, ℕ, ◌≤◌, List, [], ◌∷◌, ◌++◌, length, refl, ap, ◌∙◌, arith, length-append}
use Rattle.std.specs.List.{flat_map}
use Rattle.std.proofs.lemmas.List.{length-map, map-append}
use Rattle.std.proofs.lemmas.List.Sums.{sum_by-cons}
use Rattle.hunk_blocks.specs.{Values.{RelocGroup, ExtEntry, SymbolEntry, BlockBody, ext_type, offset_count}, Entries.shaped_text}
use Rattle.hunk_grammar.specs.ExtKinds.{ext_shape}
use Rattle.hunk_grammar.specs.BlockParts.{Part, Part as parts}
use Rattle.hunk_blocks.specs.Parts.{each, longs_of, group_parts, group_text, symbol_text, ext_text, list_text, body_text, text_of}

pub longs_of-each : (part : Part) (words : List ℕ) → longs_of (each part words) ≡ words
longs_of-each part [] = refl
longs_of-each part (w ∷ words) = ap (λ l. w ∷ l) (longs_of-each part words)

pub group_text_is : (g : RelocGroup) → group_text g ≡ length g.offsets ∷ g.target ∷ g.offsets
group_text_is g = ap (λ l. length g.offsets ∷ g.target ∷ l) (longs_of-each parts.Offset g.offsets)

pub symbol_text_is : (s : SymbolEntry) → symbol_text s ≡ s.word ∷ (s.name ++ s.value ∷ [])
symbol_text_is s = search (rules, map-append, longs_of-each)

-- ---- EXT entries

pub ext_text_is : (e : ExtEntry) → ext_text e ≡ e.word ∷ (e.name ++ shaped_text (ext_shape (ext_type e)) (e.value, e.offsets))
ext_text_is e = search (rules, map-append, longs_of-each)

-- ---- lists and bodies

-- each offset is a longword of the text
pub offsets_few : (groups : List RelocGroup) → offset_count groups ≤ length (flat_map group_parts groups)
offsets_few [] = omega arith
offsets_few (g ∷ groups) = omega (
  arith,
  sum_by-cons (λ group. length group.offsets) g groups,
  offsets_few groups,
  length-append (group_parts g) (flat_map group_parts groups),
  length-map {B = Part × ℕ} g.offsets (λ w. (parts.Offset, w)),
)

pub longs_of-flat_map : {A : Type 0} (f : A → List (Part × ℕ)) (xs : List A) → longs_of (flat_map f xs) ≡ flat_map (λ x. longs_of (f x)) xs
longs_of-flat_map f [] = refl
longs_of-flat_map f (x ∷ xs) = map-append (λ p. p.1) (f x) (flat_map f xs) ∙ ap (λ l. longs_of (f x) ++ l) (longs_of-flat_map f xs)

pub list_is : {A : Type 0} (f : A → List (Part × ℕ)) (part : Part) (xs : List A) → longs_of (flat_map f xs ++ (part, 0) ∷ []) ≡ list_text (λ x. longs_of (f x)) xs
list_is f part xs = map-append (λ p. p.1) (flat_map f xs) ((part, 0) ∷ []) ∙ ap (λ l. l ++ 0 ∷ []) (longs_of-flat_map f xs)

pub body_text_is : (b : BlockBody) → body_text b ≡ text_of b
body_text_is b = search (rules, list_is, longs_of-each)
