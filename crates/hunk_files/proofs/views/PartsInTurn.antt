-- Parts that are taken one by one, as they lie in the input.
use Rattle.std.proofs.Common.{rules, ◌≡◌, ℕ, ◌+◌, ◌*◌, List, [], ◌∷◌, ◌++◌, length, refl, sym, ap, subst, ◌∙◌, append_assoc, length-append, Option, Some, None, arith}
use Rattle.std.specs.{List.flat_map, Iterator.{MakesProgress, item_count}}
use Rattle.hunk_blocks.specs.Placed.{Placed}
use Rattle.hunk_blocks.proofs.Lists.{flat_map-more}
use Rattle.hunk_files.specs.{InPlace.GivesPart, Lacks.{EndsAt, Within}}

-- a part given is one less to come
pub part_less : {A : Type 0} (text : A → List ℕ) (can : Placed (List A) → Type 0) (always : (s : Placed (List A)) → can s) (s t : Placed (List A)) (part : Placed A) → GivesPart text s (Some part) t →
    MakesProgress can (item_count {A = A} (λ p. p.value)) s (Some part) t
part_less text can always s t part gives = record { on = λ h. (always t, tt, omega (arith, ap (λ (p : Placed (List _)). length p.value) gives.0)); keeps = always t; rests = λ h. tt }

-- the byte after all parts that are still to come
abbrev pub end_of : {A : Type 0} → (A → List ℕ) → Placed (List A) → ℕ
end_of text parts = parts.place + 4 * length (flat_map text parts.value)

-- They stand there when no further part is given.
pub end_passed : {A : Type 0} (text : A → List ℕ) (all old new : Placed (List A)) → end_of text old ≡ end_of text all → GivesPart text old None new → new.place ≡ end_of text all
end_passed text all old new same gives =
    omega (arith, ap (λ (p : Placed (List _)). p.place) gives.1, ap (λ (xs : List _). length (flat_map text xs)) gives.0, same)

-- It stays where a part is given.
pub end_stays : {A : Type 0} (text : A → List ℕ) (old new : Placed (List A)) (part : Placed A) → GivesPart text old (Some part) new → end_of text new ≡ end_of text old
end_stays text old new part gives =
    omega (
      arith,
      gives.1,
      ap (λ (p : Placed (List _)). p.place) gives.0,
      ap (λ (p : Placed (List _)). length (flat_map text p.value)) gives.0,
      length-append (text part.value) (flat_map text new.value),
    )

module _ {A : Type 0} (text : A → List ℕ) (all : Placed (List A)) where
  -- These parts were taken, and the others are left.
  pub record Taken (left : Placed (List A)) (done : List A) : Type 0 where
    pub split : all.value ≡ done ++ left.value
    pub place : left.place ≡ all.place + 4 * length (flat_map text done)

  pub all_taken : (old new : Placed (List A)) (done : List A) (found : Option (Placed A)) → Taken old done → found ≡ None → GivesPart text old found new → (done ≡ all.value) × (new.place ≡ all.place + 4 * length (flat_map text all.value))
  all_taken old new done found t same gives = search rules

  module _ (old new : Placed (List A)) (done : List A) (found : Option (Placed A)) (part : Placed A) (t : Taken old done) (same : found ≡ Some part) (gives : GivesPart text old found new) where
    given : GivesPart text old (Some part) new
    given = subst (λ f. GivesPart text old f new) same gives

    place_is : old.place ≡ part.place
    place_is = ap (λ (p : Placed (List A)). p.place) given.0

    split_is : all.value ≡ done ++ part.value ∷ new.value
    split_is = t.split ∙ ap (λ (p : Placed (List A)). done ++ p.value) given.0

    pub part_taken : Taken new (done ++ part.value ∷ [])
    part_taken =
        record {
          split = split_is ∙ sym (append_assoc done (part.value ∷ []) new.value);
          place = omega (arith, given.1, place_is, t.place, ap length (flat_map-more text done part.value), length-append (flat_map text done) (text part.value));
        }

    -- What ends in it ends within the parts.
    pub part_within : (Ends : A → ℕ → Type 0) (place : ℕ) → EndsAt (Ends part.value) part.place place → EndsAt (Within text Ends all.value) all.place place
    part_within Ends place e =
        record {
          number = length (flat_map text done) + e.number;
          ends = record { before = done; item = part.value; rest = new.value; split = split_is; after = record { number = e.number; ends = e.ends; place = refl } };
          place = omega (arith, e.place, place_is, t.place);
        }
