-- What is known of a block that is not refused.
use Rattle.std.proofs.Common.{◌≡◌, ℕ, zero, suc, ◌<◌, ◌≤◌, Bool, true, false, not, ◌&&◌, cond, eqb, List, [], refl, sym, ◌∙◌, Option, Some, None}
use Rattle.std.specs.Prelude.{nat_lt, ⊤}
use Rattle.std.proofs.lemmas.Bool.{and_parts, eqb-true, ltb-false, ltb-true, not-false, or_parts}
use Rattle.hunk_words.specs.Bits.{kind, unit_word}
use Rattle.hunk_words.specs.Limits.{content_limit}
use Rattle.hunk_words.specs.declared.block_word.Kind.{Kind}
use Rattle.hunk_grammar.specs.declared.mode.Mode.{Mode}
use Rattle.hunk_grammar.specs.declared.mode.Mode.TheVariants as modes
use Rattle.hunk_grammar.specs.Modes.{refuse_alone_word}
use Rattle.hunk_grammar.specs.ObjectPositions.{refuse_place}
use Rattle.hunk_grammar.specs.ObjectRoles.{has_content, refuse_unit}
use Rattle.hunk_grammar.specs.Roles.{refuse_word}
use Rattle.hunk_grammar.specs.Standings.{first_of, refuse_standing, standing_of_kind}
use Rattle.hunk_grammar.specs.declared.object_position.WordPlace.{WordPlace}
use Rattle.hunk_grammar.proofs.BlockWords as loads
use Rattle.hunk_grammar.proofs.ObjectWords as objects
use Rattle.hunk_files.proofs.{cuts.UnitReading.unit_kind, object_walk.ObjectProgress.standing_goes, walk.HunkOrder.first_both}
use Rattle.hunk_parts.specs.PartFaults.{PartSize, by_reason, fits_kind, has_no_offsets, is_in_place, refuse_block_word, refuse_content, refuse_far, refuse_part, refuse_row, refuse_size, size_of_part}
use Rattle.hunk_parts.specs.Parts.{block_part, part}
use Rattle.hunk_parts.proofs.spelled.Passing.{spot}
use Rattle.hunk_parts.proofs.spelled.PartTests.{both_pass, in_its_place, no_longs, no_reason, no_zero, some_hunks, test_fails, test_holds}

abbrev pub mode_of : ℕ → Mode
mode_of zero = modes.Object
mode_of (suc n) = modes.Load

pub record BlockPasses (hunks longs : ℕ) (place : WordPlace) (list : Option Kind) (word value : ℕ) (content offsets : List ℕ) : Type 0 where
  pub in_place : is_in_place (spot hunks longs place list) (size_of_part (part block_part word value content offsets)) ≡ true
  pub alone : refuse_alone_word (mode_of hunks) word ≡ None
  pub stands : refuse_standing (has_content place) (standing_of_kind (kind word)) ≡ None
  pub fits : fits_kind (kind word) (size_of_part (part block_part word value content offsets)) ≡ true
  pub offsets_are : offsets ≡ []
  pub size : refuse_size (spot hunks longs place list) (kind word) (size_of_part (part block_part word value content offsets)) ≡ None

-- ---- the word of a block

no_unit : (word : ℕ) (q : PartSize) → fits_kind (kind word) q ≡ true → word ≡ unit_word → ⊥
no_unit word q h e = let clash = rw (e, unit_kind) at h in cc

word_passes : (hunks longs : ℕ) (place : WordPlace) (list : Option Kind) (word : ℕ) (q : PartSize) → refuse_block_word (spot hunks longs place list) word ≡ None → fits_kind (kind word) q ≡ true →
    (refuse_alone_word (mode_of hunks) word ≡ None) × (refuse_standing (has_content place) (standing_of_kind (kind word)) ≡ None)
word_passes (suc n) longs place list word q e fits =
    let ok : refuse_word (has_content place) word ≡ None = rw (no_zero n) at e in
    first_both _ _ (sym (loads.word_split (has_content place) word) ∙ ok)
word_passes zero longs place list word q e fits = by_word (eqb word unit_word) refl (sym (objects.word_split place word) ∙ e)
  where
    by_word : (b : Bool) → eqb word unit_word ≡ b → cond b (refuse_unit place) (first_of (refuse_alone_word modes.Object word) (refuse_place place (standing_of_kind (kind word)))) ≡ None →
        (refuse_alone_word modes.Object word ≡ None) × (refuse_standing (has_content place) (standing_of_kind (kind word)) ≡ None)
    by_word true is ok = absurd (no_unit word q fits (eqb-true word unit_word is))
    by_word false is ok = let h = first_both _ _ ok in (h.0, standing_goes place _ h.1)

pub block_passes : (hunks longs : ℕ) (place : WordPlace) (list : Option Kind) (word value : ℕ) (content offsets : List ℕ) →
    refuse_row (spot hunks longs place list) (Some (part block_part word value content offsets)) ≡ None → BlockPasses hunks longs place list word value content offsets
block_passes hunks longs place list word value content offsets e =
    let p = spot hunks longs place list in
    let q = size_of_part (part block_part word value content offsets) in
    let row = both_pass (refuse_part p q) (refuse_far p (part block_part word value content offsets)) e in
    let placed = in_its_place p q row.0 in
    let first = both_pass (by_reason (refuse_block_word p word)) _ placed.1 in
    let then = both_pass _ (refuse_size p (kind word) q) first.1 in
    let held = and_parts (fits_kind (kind word) q) (has_no_offsets q) (test_holds _ _ then.0) in
    let ok = word_passes hunks longs place list word q (no_reason _ first.0) held.0 in
    record {
      in_place = placed.0;
      alone = ok.0;
      stands = ok.1;
      fits = held.0;
      offsets_are = no_longs offsets held.1;
      size = then.1;
    }

-- ---- the size of a content

-- no more than the hunk of a load file declares
abbrev pub FitsLongs : ℕ → ℕ → ℕ → Type 0
FitsLongs zero longs n = ⊤
FitsLongs (suc m) longs n = n ≤ longs

declared : (hunks longs n : ℕ) → (nat_lt 0 hunks && nat_lt longs n) ≡ false → FitsLongs hunks longs n
declared zero longs n e = tt
declared (suc m) longs n e = ltb-false longs n (rw (some_hunks m) at e)

pub content_passes : (hunks longs : ℕ) (place : WordPlace) (list : Option Kind) (n : ℕ) → refuse_content (spot hunks longs place list) n ≡ None → (n < content_limit) × FitsLongs hunks longs n
content_passes hunks longs place list n e =
    let h = or_parts (not (nat_lt n content_limit)) (nat_lt 0 hunks && nat_lt longs n) (test_fails _ _ e) in
    (ltb-true n content_limit (not-false (nat_lt n content_limit) h.0), declared hunks longs n h.1)
