-- What is known of a HUNK or a UNIT that is not refused.
use Rattle.std.proofs.Common.{◌≡◌, ℕ, ◌<◌, Bool, true, false, not, ◌&&◌, ◌||◌, List, [], length, Option, Some, None}
use Rattle.std.specs.Prelude.{nat_lt, ◌==◌}
use Rattle.std.proofs.lemmas.Bool.{and_parts, eqb-true, ltb-true, not-false, or_parts}
use Rattle.hunk_words.specs.Bits.{has_both_bits}
use Rattle.hunk_words.specs.Limits.{name_limit}
use Rattle.hunk_words.specs.declared.block_word.Kind.{Kind}
use Rattle.hunk_grammar.specs.declared.object_position.WordPlace.{WordPlace}
use Rattle.hunk_parts.specs.PartFaults.{has_no_content, has_no_offsets, has_no_value, is_in_place, is_open, refuse_far, refuse_name, refuse_part, refuse_row, size_of_part}
use Rattle.hunk_parts.specs.Parts.{hunk_part, part, unit_part}
use Rattle.hunk_parts.proofs.spelled.PartTests.{both_pass, in_its_place, no_longs, test_fails, test_holds, three_hold}
use Rattle.hunk_parts.proofs.spelled.Passing.{spot}

pub record HunkPasses (hunks : ℕ) (place : WordPlace) (word value : ℕ) (content offsets : List ℕ) : Type 0 where
  pub some : (hunks == 0) ≡ false
  pub closed : is_open place ≡ false
  pub content_is : content ≡ []
  pub offsets_are : offsets ≡ []
  pub extra : has_both_bits word ≡ false → value ≡ 0

no_extra : (b c : Bool) → (b || c) ≡ true → b ≡ false → c ≡ true
no_extra true c e f = absurd cc
no_extra false c e f = e

pub hunk_passes : (hunks longs : ℕ) (place : WordPlace) (list : Option Kind) (word value : ℕ) (content offsets : List ℕ) →
    refuse_row (spot hunks longs place list) (Some (part hunk_part word value content offsets)) ≡ None → HunkPasses hunks place word value content offsets
hunk_passes hunks longs place list word value content offsets e =
    let p = spot hunks longs place list in
    let q = size_of_part (part hunk_part word value content offsets) in
    let row = both_pass (refuse_part p q) (refuse_far p (part hunk_part word value content offsets)) e in
    let bits = or_parts _ (not (has_both_bits word || has_no_value q)) (test_fails _ _ row.0) in
    let fields = or_parts _ (not (has_no_content q && has_no_offsets q)) bits.0 in
    let stands = or_parts (hunks == 0) (is_open place) fields.0 in
    let none = and_parts (has_no_content q) (has_no_offsets q) (not-false (has_no_content q && has_no_offsets q) fields.1) in
    record {
      some = stands.0;
      closed = stands.1;
      content_is = no_longs content none.0;
      offsets_are = no_longs offsets none.1;
      extra = λ b. eqb-true value 0 (no_extra (has_both_bits word) (has_no_value q) (not-false (has_both_bits word || has_no_value q) bits.1) b);
    }

pub record UnitPasses (hunks longs : ℕ) (place : WordPlace) (list : Option Kind) (word value : ℕ) (content offsets : List ℕ) : Type 0 where
  pub in_place : is_in_place (spot hunks longs place list) (size_of_part (part unit_part word value content offsets)) ≡ true
  pub closed : is_open place ≡ false
  pub word_is : word ≡ 0
  pub value_is : value ≡ 0
  pub offsets_are : offsets ≡ []
  pub short : length content < name_limit

pub unit_passes : (hunks longs : ℕ) (place : WordPlace) (list : Option Kind) (word value : ℕ) (content offsets : List ℕ) →
    refuse_row (spot hunks longs place list) (Some (part unit_part word value content offsets)) ≡ None → UnitPasses hunks longs place list word value content offsets
unit_passes hunks longs place list word value content offsets e =
    let p = spot hunks longs place list in
    let q = size_of_part (part unit_part word value content offsets) in
    let row = both_pass (refuse_part p q) (refuse_far p (part unit_part word value content offsets)) e in
    let placed = in_its_place p q row.0 in
    let first = both_pass _ _ placed.1 in
    let then = both_pass _ (refuse_name 4 q) first.1 in
    let held = three_hold (word == 0) (has_no_value q) (has_no_offsets q) (test_holds _ _ then.0) in
    record {
      in_place = placed.0;
      closed = test_fails (is_open place) _ first.0;
      word_is = eqb-true word 0 held.0;
      value_is = eqb-true value 0 held.1;
      offsets_are = no_longs offsets held.2;
      short = ltb-true (length content) name_limit (test_holds (nat_lt (length content) name_limit) _ then.1);
    }
