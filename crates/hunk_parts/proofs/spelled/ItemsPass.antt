-- The items of a block are not refused.
use Rattle.std.proofs.Common.{◌≡◌, ◌≢◌, ℕ, zero, suc, ◌+◌, ◌*◌, ◌^◌, ◌<◌, Bool, true, false, not, ◌&&◌, cond, eqb, ltb, List, [], ◌∷◌, length, refl, ap, arith, Option, Some, None}
use Rattle.std.specs.Prelude.{nat_lt, ◌==◌}
use Rattle.std.specs.List.{AllByRecursion}
use Rattle.std.proofs.lemmas.Bool.{and_from, eq-eqb, eqb-true, le-ltb, lt-ltb, ne_eqb, or_right}
use Rattle.hunk_words.specs.Bits.{entry_type, is_relocation}
use Rattle.hunk_words.specs.declared.block_word.Kind.{Kind}
use Rattle.hunk_words.specs.declared.block_word.Kind.TheVariants as kinds
use Rattle.hunk_grammar.specs.ExtKinds.{ext_kind, ext_shape, shape_of_kind}
use Rattle.std.specs.Option.{is_some, option_map}
use Rattle.hunk_words.specs.declared.reason.Reason.TheVariants as reasons
use Rattle.hunk_grammar.specs.declared.ext_kind.ExtKind.{ExtKind}
use Rattle.hunk_grammar.specs.declared.ext_shape.ExtShape.{ExtShape}
use Rattle.hunk_grammar.specs.declared.ext_shape.ExtShape.TheVariants.{Definition, References, Common}
use Rattle.hunk_grammar.specs.ObjectRoles.{refuse_ext_type}
use Rattle.hunk_grammar.specs.declared.object_position.WordPlace.{WordPlace}
use Rattle.hunk_grammar.specs.declared.object_position.WordPlace.TheVariants.{InHunk}
use Rattle.hunk_blocks.specs.Values.{ExtEntry, RelocGroup, SymbolEntry, FitsShape, IsEntryWord, IsExtEntry, IsGroup, IsSymbolEntry, ext_type}
use Rattle.hunk_files.specs.LoadFile.{IsInside}
use Rattle.hunk_parts.specs.PartFaults.{PartSize, Refusal, by_reason, fits_shape, goes_on, has_no_content, has_no_offsets, has_no_value, has_offsets, is_in_place, open_items, or_else, refuse_far, refuse_group, refuse_name, refuse_offsets, refuse_part, refuse_row, refuse_what, size_of_part, strange, where_true}
use Rattle.hunk_parts.specs.Parts.{entry_part, group_part, of_entry, of_group, of_symbol, symbol_part}
use Rattle.hunk_parts.proofs.spelled.PartTests.{no_zero, some_hunks}
use Rattle.hunk_parts.proofs.spelled.Passing.{spot}
use Rattle.hunk_parts.proofs.spelled.Tails.{FitsOneGroup}

-- ---- tests in turn

pub neither : (a b : Option Refusal) → a ≡ None → b ≡ None → or_else a b ≡ None
neither a b e f = rw e f

pub holding : (t : Bool) (o : Option Refusal) → t ≡ true → where_true (not t) o ≡ None
holding t o e = rw e refl

pub placed : (t : Bool) (o r : Option Refusal) → t ≡ true → o ≡ None → cond t o r ≡ None
placed t o r e f = rw e f

pub both_hold : (a b : Bool) → a ≡ true → b ≡ true → (a && b) ≡ true
both_hold a b e f = and_from a b e f

-- a part of an open hunk is in its place
pub in_open_hunk : (hunks longs : ℕ) (has : Bool) (list : Option Kind) (q : PartSize) → is_in_place (spot hunks longs (InHunk has) list) q ≡ true
in_open_hunk zero longs has list q = or_right (q.what == 2) true refl
in_open_hunk (suc n) longs has list q = rw (some_hunks n) refl

-- ---- groups

some_offsets : (offsets : List ℕ) → offsets ≢ [] → 0 < length offsets
some_offsets [] h = absurd (h refl)
some_offsets (o ∷ os) h = omega arith

relocates_groups : (k : Kind) → is_relocation k ≡ true → eqb (open_items (Some k)) group_part ≡ true
relocates_groups kinds.Symbol h = absurd cc
relocates_groups kinds.Ext h = absurd cc
relocates_groups kinds.Unit h = absurd cc
relocates_groups _ h = cc

offsets_pass : (longs ahead : ℕ) (offsets : List ℕ) → AllByRecursion (IsInside longs) offsets → refuse_offsets longs ahead offsets ≡ None
offsets_pass longs ahead [] h = refl
offsets_pass longs ahead (o ∷ os) h = rw (le-ltb (4 * longs) (o + 4) h.0) (offsets_pass longs (ahead + 4) os h.1)

nothing_inside : (longs : ℕ) (offsets : List ℕ) → offsets ≢ [] → AllByRecursion (IsInside longs) offsets → longs ≡ 0 → ⊥
nothing_inside longs [] some h e = some refl
nothing_inside longs (o ∷ os) some h e = omega (arith, h.0)

target_passes : (hunks longs : ℕ) (place : WordPlace) (list : Option Kind) (g : RelocGroup) → IsGroup g → FitsOneGroup hunks longs g → refuse_group (spot hunks longs place list) (size_of_part (of_group g)) ≡ None
target_passes zero longs place list g is fits = refl
target_passes (suc n) longs place list g is fits =
    rw (no_zero n, ne_eqb longs 0 (nothing_inside longs g.offsets is.some fits.1), lt-ltb g.target (suc n) fits.0) refl

far_passes : (hunks longs : ℕ) (place : WordPlace) (list : Option Kind) (g : RelocGroup) → FitsOneGroup hunks longs g → refuse_far (spot hunks longs place list) (of_group g) ≡ None
far_passes zero longs place list g fits = refl
far_passes (suc n) longs place list g fits = rw (some_hunks n) (offsets_pass longs 8 g.offsets fits.1)

module _ (hunks longs : ℕ) (has : Bool) where
  pub group_row_passes : (k : Kind) (g : RelocGroup) → is_relocation k ≡ true → IsGroup g → FitsOneGroup hunks longs g → refuse_row (spot hunks longs (InHunk has) (Some k)) (Some (of_group g)) ≡ None
  group_row_passes k g relocates is fits =
      let p = spot hunks longs (InHunk has) (Some k) in
      let q = size_of_part (of_group g) in
      let offsets = both_hold (ltb 0 (length g.offsets)) (ltb (length g.offsets) (2 ^ 32)) (lt-ltb 0 (length g.offsets) (some_offsets g.offsets is.some)) (lt-ltb (length g.offsets) (2 ^ 32) is.offsets.0) in
      let tests : (eqb (open_items (Some k)) group_part && has_no_value q && has_no_content q && has_offsets q) ≡ true = rw (relocates_groups k relocates) offsets in
      neither (refuse_part p q) (refuse_far p (of_group g))
      (placed (is_in_place p q) (refuse_what group_part p q) strange (in_open_hunk hunks longs has (Some k) q)
      (neither _ (refuse_group p q) (holding _ strange tests) (target_passes hunks longs (InHunk has) (Some k) g is fits)))
      (far_passes hunks longs (InHunk has) (Some k) g fits)

  -- ---- symbols and entries

  name_fits : (name : List ℕ) (word : ℕ) → IsEntryWord word name → ltb (length name) (2 ^ 24) ≡ true
  name_fits name word is = lt-ltb (length name) (2 ^ 24) (omega (arith, is.count))

  -- its longword is not the zero that ends the list
  goes : (name : List ℕ) (word : ℕ) → IsEntryWord word name → not (entry_type word == 0 && length name == 0) ≡ true
  goes name word is = by_tests (entry_type word == 0) (length name == 0) refl refl
    where
      by_tests : (a b : Bool) → (entry_type word == 0) ≡ a → (length name == 0) ≡ b → not (a && b) ≡ true
      by_tests true true none empty =
          let top : entry_type word ≡ 0 = eqb-true (entry_type word) 0 none in
          let low : length name ≡ 0 = eqb-true (length name) 0 empty in
          absurd (is.goes_on (omega (arith, top, low, is.count)))
      by_tests true false none empty = refl
      by_tests false b none empty = refl

  top_byte : (word : ℕ) → word < 2 ^ 32 → ltb (entry_type word) 256 ≡ true
  top_byte word fit = lt-ltb (entry_type word) 256 (omega (arith, fit))

  pub symbol_row_passes : (s : SymbolEntry) → IsSymbolEntry s → refuse_row (spot hunks longs (InHunk has) (Some kinds.Symbol)) (Some (of_symbol s)) ≡ None
  symbol_row_passes s is =
      let p = spot hunks longs (InHunk has) (Some kinds.Symbol) in
      let q = size_of_part (of_symbol s) in
      let tests : (eqb (open_items (Some kinds.Symbol)) symbol_part && has_no_offsets q && nat_lt q.word 256 && goes_on q) ≡ true =
      rw (top_byte s.word is.entry_word.fits) (goes s.name s.word is.entry_word) in
      neither (refuse_part p q) (refuse_far p (of_symbol s))
      (placed (is_in_place p q) (refuse_what symbol_part p q) strange (in_open_hunk hunks longs has (Some kinds.Symbol) q)
      (neither _ (refuse_name 0 q) (holding _ strange tests) (holding (nat_lt (length s.name) (2 ^ 24)) _ (name_fits s.name s.word is.entry_word))))
      refl

  shape_passes : (o : Option ExtShape) (e : ExtEntry) → FitsShape o e → fits_shape o (size_of_part (of_entry e)) ≡ true
  shape_passes (Some Definition) e h = eq-eqb (length e.offsets) 0 (ap length h)
  shape_passes (Some References) e h = eq-eqb e.value 0 h
  shape_passes (Some Common) e h = refl
  shape_passes None e h = absurd h

  type_passes : (o : Option ExtKind) (e : ExtEntry) → FitsShape (option_map shape_of_kind o) e → cond (is_some o) None (Some reasons.ExtKind) ≡ None
  type_passes (Some k) e h = refl
  type_passes None e h = absurd h

  pub entry_row_passes : (e : ExtEntry) → IsExtEntry e → refuse_row (spot hunks longs (InHunk has) (Some kinds.Ext)) (Some (of_entry e)) ≡ None
  entry_row_passes e is =
      let p = spot hunks longs (InHunk has) (Some kinds.Ext) in
      let q = size_of_part (of_entry e) in
      let tests : (fits_shape (ext_shape (ext_type e)) q && goes_on q && nat_lt (length e.offsets) (2 ^ 32)) ≡ true =
      both_hold _ _ (both_hold _ _ (shape_passes (ext_shape (ext_type e)) e is.shape) (goes e.name e.word is.entry_word)) (lt-ltb (length e.offsets) (2 ^ 32) is.offsets.0) in
      let kind : refuse_ext_type (ext_type e) ≡ None = type_passes (ext_kind (ext_type e)) e is.shape in
      neither (refuse_part p q) (refuse_far p (of_entry e))
      (placed (is_in_place p q) (refuse_what entry_part p q) strange (in_open_hunk hunks longs has (Some kinds.Ext) q)
      (neither (by_reason (refuse_ext_type (ext_type e))) _ (ap by_reason kind)
      (neither _ (refuse_name 0 q) (holding _ strange tests) (holding (nat_lt (length e.name) (2 ^ 24)) _ (name_fits e.name e.word is.entry_word)))))
      refl
