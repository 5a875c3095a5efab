-- What is known of a group, a symbol or an entry that is not refused.
use Rattle.std.proofs.Common.{◌≡◌, ◌≢◌, ℕ, zero, suc, ◌*◌, ◌+◌, ◌^◌, ◌<◌, Bool, true, false, ap, ◌&&◌, cond, ltb, eqb, List, [], length, refl, arith, Option, Some, None}
use Rattle.std.proofs.lemmas.Bool.{and_from, and_parts, both_ways, eq-eqb, eqb-true, ltb-true, not-true}
use Rattle.std.specs.Prelude.{nat_lt, ◌==◌}
use Rattle.hunk_words.specs.Limits.{name_limit}
use Rattle.hunk_grammar.specs.{ExtKinds.ext_shape, ObjectRoles.refuse_ext_type}
use Rattle.hunk_words.specs.Bits.{is_relocation}
use Rattle.hunk_words.specs.declared.block_word.Kind.{Kind}
use Rattle.hunk_words.specs.declared.block_word.Kind.TheVariants as kinds
use Rattle.hunk_grammar.specs.declared.object_position.WordPlace.{WordPlace}
use Rattle.hunk_blocks.specs.Values.{RelocGroup}
use Rattle.hunk_parts.specs.PartFaults.{PartSize, by_reason, fits_shape, goes_on, refuse_name, has_no_content, has_no_offsets, has_no_value, has_offsets, refuse_far, refuse_group, refuse_offsets, refuse_part, refuse_row, size_of_part}
use Rattle.hunk_parts.specs.Parts.{entry_part, group_part, part, symbol_part}
use Rattle.hunk_parts.proofs.spelled.Passing.{spot}
use Rattle.hunk_parts.proofs.spelled.PartTests.{both_pass, four_hold, in_its_place, no_longs, offsets_inside, no_zero, opens_groups, opens_symbols, opens_entries, no_reason, passes_unless, passes_where, some_hunks, test_holds, three_hold}
use Rattle.hunk_parts.proofs.spelled.Tails.{FitsOneGroup}

abbrev pub group : ℕ → List ℕ → RelocGroup
group target offsets = record { target = target; offsets = offsets }

abbrev sized : ℕ → ℕ → ℕ → List ℕ → List ℕ → PartSize
sized what word value content offsets = size_of_part (part what word value content offsets)

-- ---- groups

pub record GroupPasses (hunks longs : ℕ) (list : Option Kind) (word value : ℕ) (content offsets : List ℕ) : Type 0 where
  pub list_kind : Kind
  pub open_list : list ≡ Some list_kind
  pub relocates : is_relocation list_kind ≡ true
  pub value_is : value ≡ 0
  pub content_is : content ≡ []
  pub some : offsets ≢ []
  pub few : length offsets < 2 ^ 32
  pub fits : FitsOneGroup hunks longs (group word offsets)

target_fits : (hunks longs : ℕ) (place : WordPlace) (list : Option Kind) (q : PartSize) (offsets : List ℕ) →
    refuse_group (spot hunks longs place list) q ≡ None → (nat_lt 0 hunks ≡ true → refuse_offsets longs 8 offsets ≡ None) → FitsOneGroup hunks longs (group q.word offsets)
target_fits zero longs place list q offsets e far = tt
target_fits (suc n) longs place list q offsets e far =
    let some = passes_unless (eqb longs 0) _ _ (rw (no_zero n) at e) in
    let below = passes_where (ltb q.word (suc n)) None _ some.1 in
    (ltb-true q.word (suc n) below.0, offsets_inside longs 8 offsets (far (some_hunks n)))

far_inside : (t : Bool) (longs : ℕ) (offsets : List ℕ) → cond t (refuse_offsets longs 8 offsets) None ≡ None → t ≡ true → refuse_offsets longs 8 offsets ≡ None
far_inside true longs offsets e h = e
far_inside false longs offsets e h = absurd cc

not_empty : (xs : List ℕ) → 0 < length xs → xs ≢ []
not_empty xs some e = omega (arith, some, ap length e)

pub group_passes : (hunks longs : ℕ) (place : WordPlace) (list : Option Kind) (word value : ℕ) (content offsets : List ℕ) →
    refuse_row (spot hunks longs place list) (Some (part group_part word value content offsets)) ≡ None → GroupPasses hunks longs list word value content offsets
group_passes hunks longs place list word value content offsets e =
    let p = spot hunks longs place list in
    let q = sized group_part word value content offsets in
    let row = both_pass (refuse_part p q) (refuse_far p (part group_part word value content offsets)) e in
    let tests = both_pass _ (refuse_group p q) (in_its_place p q row.0).1 in
    let held = four_hold _ (has_no_value q) (has_no_content q) (has_offsets q) (test_holds _ _ tests.0) in
    let counts = and_parts (ltb 0 (length offsets)) (ltb (length offsets) (2 ^ 32)) held.3 in
    let groups = opens_groups list held.0 in
    record {
      list_kind = groups.0;
      open_list = groups.1;
      relocates = groups.2;
      value_is = eqb-true value 0 held.1;
      content_is = no_longs content held.2;
      some = not_empty offsets (ltb-true 0 (length offsets) counts.0);
      few = ltb-true (length offsets) (2 ^ 32) counts.1;
      fits = target_fits hunks longs place list q offsets tests.1 (far_inside (nat_lt 0 hunks) longs offsets row.1);
    }

-- ---- the name of a symbol or an entry

-- the longword in front of it
abbrev pub name_word : ℕ → List ℕ → ℕ
name_word top name = top * name_limit + length name

pub record NamePasses (top : ℕ) (name : List ℕ) : Type 0 where
  pub goes : (top ≡ 0 → name ≡ [] → ⊥)
  pub short : length name < name_limit

name_passes : (q : PartSize) (name : List ℕ) → q.content ≡ length name → goes_on q ≡ true → refuse_name 0 q ≡ None → NamePasses q.word name
name_passes q name is goes ok = record {
  goes = λ none empty. some_name q (omega (arith, is, ap length empty)) none goes;
  short = omega (arith, is, ltb-true q.content name_limit (test_holds (ltb q.content name_limit) _ ok));
}
  where
    some_name : (q : PartSize) → q.content ≡ 0 → q.word ≡ 0 → goes_on q ≡ true → ⊥
    some_name q empty none goes = both_ways (q.word == 0 && q.content == 0) (not-true (q.word == 0 && q.content == 0) goes) (and_from (q.word == 0) (q.content == 0) (eq-eqb q.word 0 none) (eq-eqb q.content 0 empty))

-- ---- symbols

pub record SymbolPasses (list : Option Kind) (word : ℕ) (content offsets : List ℕ) : Type 0 where
  pub open_list : list ≡ Some kinds.Symbol
  pub offsets_are : offsets ≡ []
  pub byte : word < 256
  pub name : NamePasses word content

pub symbol_passes : (hunks longs : ℕ) (place : WordPlace) (list : Option Kind) (word value : ℕ) (content offsets : List ℕ) →
    refuse_row (spot hunks longs place list) (Some (part symbol_part word value content offsets)) ≡ None → SymbolPasses list word content offsets
symbol_passes hunks longs place list word value content offsets e =
    let p = spot hunks longs place list in
    let q = sized symbol_part word value content offsets in
    let row = both_pass (refuse_part p q) (refuse_far p (part symbol_part word value content offsets)) e in
    let tests = both_pass _ (refuse_name 0 q) (in_its_place p q row.0).1 in
    let held = four_hold _ (has_no_offsets q) (nat_lt word 256) (goes_on q) (test_holds _ _ tests.0) in
    record {
      open_list = opens_symbols list held.0;
      offsets_are = no_longs offsets held.1;
      byte = ltb-true word 256 held.2;
      name = name_passes q content refl held.3 tests.1;
    }

-- ---- entries

pub record EntryPasses (list : Option Kind) (word value : ℕ) (content offsets : List ℕ) : Type 0 where
  pub open_list : list ≡ Some kinds.Ext
  pub accepted : refuse_ext_type word ≡ None
  pub shape : fits_shape (ext_shape word) (sized entry_part word value content offsets) ≡ true
  pub few : length offsets < 2 ^ 32
  pub name : NamePasses word content

pub entry_passes : (hunks longs : ℕ) (place : WordPlace) (list : Option Kind) (word value : ℕ) (content offsets : List ℕ) →
    refuse_row (spot hunks longs place list) (Some (part entry_part word value content offsets)) ≡ None → EntryPasses list word value content offsets
entry_passes hunks longs place list word value content offsets e =
    let p = spot hunks longs place list in
    let q = sized entry_part word value content offsets in
    let row = both_pass (refuse_part p q) (refuse_far p (part entry_part word value content offsets)) e in
    let opened = both_pass _ _ (in_its_place p q row.0).1 in
    let kind = both_pass (by_reason (refuse_ext_type word)) _ opened.1 in
    let tests = both_pass _ (refuse_name 0 q) kind.1 in
    let held = three_hold (fits_shape (ext_shape word) q) (goes_on q) (nat_lt (length offsets) (2 ^ 32)) (test_holds _ _ tests.0) in
    record {
      open_list = opens_entries list (test_holds _ _ opened.0);
      accepted = no_reason (refuse_ext_type word) kind.0;
      shape = held.0;
      few = ltb-true (length offsets) (2 ^ 32) held.2;
      name = name_passes q content refl held.1 tests.1;
    }
