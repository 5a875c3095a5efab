-- Blocks and headers of units of an object file, passed over at once.
use Rattle.std.proofs.Common.{◌≡◌, ℕ, zero, suc, ◌+◌, ◌-◌, ◌*◌, ◌≤◌, List, length, take, drop, refl, sym, ap, subst, ◌∙◌, arith}
use Rattle.hunk_grammar.specs.declared.object_position.ObjectPosition.{ObjectPosition}
use Rattle.hunk_grammar.specs.declared.object_position.ObjectPosition.TheVariants as places
use Rattle.hunk_grammar.specs.declared.object_position.WordPlace.{WordPlace}
use Rattle.hunk_grammar.specs.declared.object_position.WordPlace.TheVariants.{BetweenHunks}
use Rattle.hunk_grammar.specs.declared.phase.Phase.{Phase}
use Rattle.hunk_grammar.specs.ObjectPositions as object
use Rattle.hunk_wide.specs.declared.position.FilePosition.TheVariants as files
use Rattle.hunk_wide.specs.declared.spot.Given.{Given}
use Rattle.hunk_wide.specs.declared.spot.Given.TheVariants.{Same}
use Rattle.hunk_wide.specs.Longwords.{behind_word, given_object, go_on, straight}
use Rattle.hunk_wide.specs.Parts.{AsIs, OfUnit, IsBody, IsUnitBlock, IsUnitBody, front_word, object_at}
use Rattle.hunk_wide.proofs.AsIs.{empty_run, long_as_is, part_as_is, straight_as_is, word_and_run}
use Rattle.hunk_wide.proofs.Written.{part_length}

-- The word leads to the position after it, at which no run is owed.
word_as_is : (place : WordPlace) (p : ObjectPosition) (bytes : List ℕ) → 4 ≤ length bytes → given_object (front_word bytes) ≡ Same → object.step (places.Word place) (front_word bytes) ≡ p → object.run p ≡ 0
    → AsIs (object_at (places.Word place)) (take 4 bytes) (object_at p)
word_as_is place p bytes whole same steps none =
    subst (AsIs (object_at (places.Word place)) (take 4 bytes))
    (ap (λ (g : Given). behind_word g place (front_word bytes)) same
    ∙ ap (λ (q : ObjectPosition). go_on (files.Object q)) steps
    ∙ ap (λ (n : ℕ). straight n (files.Object p) (files.Object (object.pass_run p))) none)
    (long_as_is (files.Object (places.Word place)) bytes whole same)

pub block_as_is : (place next : WordPlace) (p : ObjectPosition) (bytes : List ℕ) (size : ℕ) → 4 ≤ length bytes → given_object (front_word bytes) ≡ Same → object.step (places.Word place) (front_word bytes) ≡ p
    → IsUnitBody p (take (length bytes - 4) (drop 4 bytes)) size next → IsUnitBlock place bytes (4 + size) next
block_as_is place next p bytes size whole same steps body = record {
  word = omega arith;
  whole = omega (arith, body.whole, part_length 4 bytes);
  as_is = part_as_is _ (object_at p) _ bytes 4 size (word_as_is place p bytes whole same steps body.begins) body.as_is;
}

-- ---- after the word

pub body_after : (next : WordPlace) (phase : Phase) (bytes : List ℕ) (size : ℕ) → IsBody phase bytes size → IsUnitBody (places.Block next phase) bytes size next
body_after next phase bytes size body = record { whole = body.whole; begins = body.begins; as_is = body.as_is (OfUnit next) }

name_run : (n : ℕ) (bytes : List ℕ) → length bytes ≡ 4 * n → AsIs (go_on (files.Object (object.owe_name n))) bytes (object_at (places.Word BetweenHunks))
name_run zero bytes len = empty_run _ bytes (omega (arith, len))
name_run (suc n) bytes len = straight_as_is (4 * n + 3) _ bytes (omega (arith, len))

-- the name of a unit, by its count
pub name_after : (bytes : List ℕ) (size : ℕ) → size ≡ 4 + 4 * front_word bytes → size ≤ length bytes → IsUnitBody places.UnitCount bytes size BetweenHunks
name_after bytes size e whole = record {
  whole = whole;
  begins = refl;
  as_is =
      subst (λ (k : ℕ). AsIs (object_at places.UnitCount) (take k bytes) (object_at (places.Word BetweenHunks))) (sym e)
      (word_and_run (files.Object places.UnitCount) _ bytes (front_word bytes) refl (omega (arith, e, whole)) (name_run (front_word bytes)));
}
