-- Longwords of an object file are given out as they are.
use Rattle.std.proofs.Common.{◌≡◌, ℕ, zero, suc, ◌^◌, ◌<◌, Bool, true, false, cond, eqb, List, [], ◌∷◌, ◌++◌, refl, sym, ap, ap₂, subst, ◌∙◌, Some, None}
use Rattle.std.specs.{List.AllByRecursion, Int.{to_be_bytes, w32}}
use Rattle.std.proofs.lemmas.Bool.{eqb-true}
use Rattle.hunk_words.specs.declared.block_word.Kind.{Kind}
use Rattle.hunk_words.specs.declared.block_word.Kind.TheVariants as kinds
use Rattle.hunk_words.specs.declared.reason.Reason.TheVariants as reasons
use Rattle.hunk_words.specs.{Bits.{has_both_bits, is_advisory, kind, unit_word}, Longs.{AreLongs, IsLong, bytes_of}}
use Rattle.hunk_blocks.specs.AlongText.{GoesAlong}
use Rattle.hunk_blocks.specs.Faults.{words}
use Rattle.hunk_grammar.specs.declared.phase.Phase.{Phase}
use Rattle.hunk_grammar.specs.declared.phase.Phase.TheVariants as phases
use Rattle.hunk_grammar.specs.declared.object_position.ObjectPosition.{ObjectPosition}
use Rattle.hunk_grammar.specs.declared.object_position.ObjectPosition.TheVariants as places
use Rattle.hunk_grammar.specs.declared.object_position.WordPlace.{WordPlace}
use Rattle.hunk_grammar.specs.declared.object_position.WordPlace.TheVariants.{BeforeUnits, BetweenHunks}
use Rattle.hunk_grammar.specs.ObjectPositions.{role_at, step}
use Rattle.hunk_grammar.specs.ObjectRoles.{ObjectRole, refuse_object, refuse_object_kind, refuse_object_word, refuse_unit}
use Rattle.hunk_files.specs.{Machines.refuse_in_object, ObjectFault.units_labelled, ObjectFile.{IsObjectFile, ObjectFileValue}}
use Rattle.hunk_files.proofs.{cuts.UnitReading.object_longs, object_walk.OneObjectFault.object_reads, object_walk.UnitFaults.units_words}
use Rattle.hunk_wide.specs.declared.position.FilePosition.TheVariants as files
use Rattle.hunk_wide.specs.declared.spot.Spot.{Spot}
use Rattle.hunk_wide.specs.declared.spot.Spot.TheVariants.{Long}
use Rattle.hunk_wide.specs.declared.spot.Given.{Given}
use Rattle.hunk_wide.specs.declared.spot.Given.TheVariants.{Same}
use Rattle.hunk_wide.specs.Longwords.{behind_object, behind_word, given, given_object, given_object_kind, go_on, out_long}
use Rattle.hunk_wide.specs.Plain.{plain, plain_from}
use Rattle.hunk_wide.proofs.{Cells.long_cells, Straight.four_more}

abbrev pub ObjectLabelled : Type 0
ObjectLabelled = List (ObjectRole × ℕ)

abbrev pub ObjectAlong : ObjectPosition → ObjectLabelled → ObjectPosition → Type 0
ObjectAlong p ls q = GoesAlong refuse_in_object refuse_object step p ls q

-- none of them is refused
abbrev pub ArePassed : ObjectLabelled → Type 0
ArePassed ls = AllByRecursion (λ (l : ObjectRole × ℕ). IsLong l.1 × (refuse_object l.0 l.1 ≡ None)) ls

-- From this position the bytes are given out as these longwords, which lead to that one.
abbrev pub ObjectGoes : ObjectPosition → ObjectLabelled → ObjectPosition → List ℕ → List ℕ → Type 0
ObjectGoes p ls q bytes more = plain_from (go_on (files.Object p)) (bytes ++ more) ≡ bytes_of (words ls) ++ plain_from (go_on (files.Object q)) more

-- ---- what is not refused is given out as it is

kind_same : (place : WordPlace) (advisory : Bool) (k : Kind) → refuse_object_kind place advisory k ≡ None → given_object_kind k ≡ Same
kind_same place advisory kinds.Reloc32Short h = absurd cc
kind_same place advisory _ h = refl

pub unit_same : given_object unit_word ≡ Same
unfolding kind
unit_same = refl

word_same : (place : WordPlace) (w : ℕ) → refuse_object_word place w ≡ None → given_object w ≡ Same
word_same place w = by_unit (eqb w unit_word) refl
  where
    by_bits : (b : Bool) → cond b (Some reasons.BothBits) (refuse_object_kind place (is_advisory w) (kind w)) ≡ None → cond b Same (given_object_kind (kind w)) ≡ Same
    by_bits true h = refl
    by_bits false h = kind_same place (is_advisory w) (kind w) h

    by_unit : (u : Bool) → eqb w unit_word ≡ u → cond u (refuse_unit place) (cond (has_both_bits w) (Some reasons.BothBits) (refuse_object_kind place (is_advisory w) (kind w))) ≡ None → given_object w ≡ Same
    by_unit true e h = subst (λ (n : ℕ). given_object n ≡ Same) (sym (eqb-true w unit_word e)) unit_same
    by_unit false e h = by_bits (has_both_bits w) h

given_same : (p : ObjectPosition) (w : ℕ) → refuse_object (role_at p) w ≡ None → given (files.Object p) w ≡ Same
given_same (places.Word place) w h = word_same place w h
given_same places.UnitCount w h = refl
given_same (places.UnitName owed) w h = refl
given_same (places.Block next phase) w h = refl

step_same : (p : ObjectPosition) (w : ℕ) → refuse_object (role_at p) w ≡ None → behind_object p w ≡ go_on (files.Object (step p w))
step_same (places.Word place) w h = ap (λ (g : Given). behind_word g place w) (word_same place w h)
step_same places.UnitCount w h = refl
step_same (places.UnitName owed) w h = refl
step_same (places.Block next phase) w h = refl

-- ---- one longword

abbrev Goes : ObjectPosition → ℕ → List ℕ → Type 0
Goes p w more = plain_from (go_on (files.Object p)) (to_be_bytes w32 w ++ more) ≡ to_be_bytes w32 w ++ plain_from (go_on (files.Object (step p w))) more

long_same : (p : ObjectPosition) (w : ℕ) (more : List ℕ) → w < 2 ^ 32 → refuse_object (role_at p) w ≡ None →
    plain_from (Long (files.Object p)) (to_be_bytes w32 w ++ more) ≡ to_be_bytes w32 w ++ plain_from (go_on (files.Object (step p w))) more
long_same p w more fits h =
    long_cells (files.Object p) w more fits
    ∙ ap₂ (λ (g : Given) (s : Spot). out_long g (to_be_bytes w32 w) w ++ plain_from s more) (given_same p w h) (step_same p w h)

name_goes : (owed w : ℕ) (more : List ℕ) → Goes (places.UnitName owed) w more
unfolding plain_from
name_goes zero w more = refl
name_goes (suc k) w more = four_more k _ _ _ _ _ more

module _ (next : WordPlace) where
  content_goes : (longs owed w : ℕ) (more : List ℕ) → Goes (places.Block next (phases.Content longs owed)) w more
  unfolding plain_from
  content_goes longs zero w more = refl
  content_goes longs (suc k) w more = four_more k _ _ _ _ _ more

  payload_goes : (owed w : ℕ) (more : List ℕ) → Goes (places.Block next (phases.Payload owed)) w more
  unfolding plain_from
  payload_goes zero w more = refl
  payload_goes (suc k) w more = four_more k _ _ _ _ _ more

  symbol_goes : (owed w : ℕ) (more : List ℕ) → Goes (places.Block next (phases.Symbol owed)) w more
  unfolding plain_from
  symbol_goes zero w more = refl
  symbol_goes (suc k) w more = four_more k _ _ _ _ _ more

  front_goes : (owed w : ℕ) (more : List ℕ) → Goes (places.Block next (phases.ExtFront owed)) w more
  unfolding plain_from
  front_goes zero w more = refl
  front_goes (suc k) w more = four_more k _ _ _ _ _ more

  rest_goes : (owed w : ℕ) (more : List ℕ) → Goes (places.Block next (phases.ExtRest owed)) w more
  unfolding plain_from
  rest_goes zero w more = refl
  rest_goes (suc k) w more = four_more k _ _ _ _ _ more

  offset_goes : (t owed w : ℕ) (more : List ℕ) → Goes (places.Block next (phases.Offset t owed)) w more
  unfolding plain_from
  offset_goes t zero w more = refl
  offset_goes t (suc k) w more = four_more k _ _ _ _ _ more

  block_goes : (phase : Phase) (w : ℕ) (more : List ℕ) → w < 2 ^ 32 → refuse_object (role_at (places.Block next phase)) w ≡ None → Goes (places.Block next phase) w more
  block_goes (phases.Content longs owed) w more fits h = content_goes longs owed w more
  block_goes (phases.Payload owed) w more fits h = payload_goes owed w more
  block_goes (phases.Symbol owed) w more fits h = symbol_goes owed w more
  block_goes (phases.ExtFront owed) w more fits h = front_goes owed w more
  block_goes (phases.ExtRest owed) w more fits h = rest_goes owed w more
  block_goes (phases.Offset t owed) w more fits h = offset_goes t owed w more
  block_goes phase w more fits h = long_same (places.Block next phase) w more fits h

one_long : (p : ObjectPosition) (w : ℕ) (more : List ℕ) → w < 2 ^ 32 → refuse_object (role_at p) w ≡ None → Goes p w more
one_long (places.Word place) w more fits h = long_same (places.Word place) w more fits h
one_long places.UnitCount w more fits h = long_same places.UnitCount w more fits h
one_long (places.UnitName owed) w more fits h = name_goes owed w more
one_long (places.Block next phase) w more fits h = block_goes next phase w more fits h

-- ---- all of them

pub object_plain : (p q : ObjectPosition) (ls : ObjectLabelled) (more : List ℕ) → ObjectAlong p ls q → ArePassed ls → ObjectGoes p ls q (bytes_of (words ls)) more
unfolding bytes_of
object_plain p q [] more h ok = ap (λ (x : ObjectPosition). plain_from (go_on (files.Object x)) more) h
object_plain p q (l ∷ ls) more h ok =
    one_long p l.1 (bytes_of (words ls) ++ more) ok.0.0 (h.0 l.1 ∙ ok.0.1)
    ∙ ap (λ (x : List ℕ). to_be_bytes w32 l.1 ++ x) (object_plain (step p l.1) q ls more h.1 ok.1)

-- The longwords of an object file fit, and none is refused.
pub object_passed : (o : ObjectFileValue) → IsObjectFile o → ArePassed (units_labelled BeforeUnits o)
object_passed o is =
    both (units_labelled BeforeUnits o) (subst AreLongs (sym (units_words BeforeUnits o)) (object_longs o is.units)) (object_reads.passes o (is.some, is.units))
  where
    both : (ls : ObjectLabelled) → AreLongs (words ls) → AllByRecursion (λ (l : ObjectRole × ℕ). refuse_object l.0 l.1 ≡ None) ls → ArePassed ls
    both [] fit pass = tt
    both (l ∷ ls) fit pass = ((fit.0, pass.0), both ls fit.1 pass.1)

-- With the word of its first unit a file is an object file.
pub first_unit : (bytes : List ℕ) → plain (to_be_bytes w32 unit_word ++ bytes) ≡ plain_from (go_on (files.Object (places.Word BeforeUnits))) (to_be_bytes w32 unit_word ++ bytes)
unfolding plain_from kind
first_unit bytes = refl

-- Where a file may end nothing is put in.
pub end_stays : plain_from (go_on (files.Object (places.Word BetweenHunks))) [] ≡ []
unfolding plain_from
end_stays = refl
