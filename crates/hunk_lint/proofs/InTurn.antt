-- Items whose warnings are listed one after the other.
use Rattle.std.proofs.Common.{◌≡◌, ℕ, ◌+◌, ◌*◌, List, ◌∷◌, ◌++◌, length, sym, ap, subst, ◌∙◌, Some}
use Rattle.hunk_blocks.specs.Placed.{GivesFirst, Placed}
use Rattle.hunk_files.specs.InPlace.{GivesPart}
use Rattle.hunk_files.proofs.findings.FindingSteps.{TakenUpTo, taken_on}
use Rattle.hunk_files.specs.LoadFile.{HunkValue, LoadFileValue}
use Rattle.hunk_files.proofs.views.HunksInPlace.{hunk_text}
use Rattle.hunk_lint.specs.Facts.{facts_of}
use Rattle.hunk_lint.specs.Warnings.{blocks_warnings, hunks_warnings, in_turn}
use Rattle.hunk_lint.specs.declared.warning.Warning.{Warning}

module _ {S : Type 0} (Takes : S → List Warning → S → Type 0) (more : (a b c : S) (xs ys : List Warning) → Takes a xs b → Takes b ys c → Takes a (xs ++ ys) c) where
  -- The first item is listed.
  module _ {A : Type 0} (found : ℕ → A → List Warning) (text : A → List ℕ) (a b c : S) (all : List Warning) where
    first_listed : (old new : Placed (List A)) (x : A) → old.value ≡ x ∷ new.value → new.place ≡ old.place + 4 * length (text x) →
        TakenUpTo Takes a b (in_turn found text old.place old.value) all → Takes b (found old.place x) c → TakenUpTo Takes a c (in_turn found text new.place new.value) all
    first_listed old new x first next t h =
        taken_on Takes more a b c (found old.place x) (in_turn found text new.place new.value) (in_turn found text old.place old.value) all
        (ap (λ (xs : List A). in_turn found text old.place xs) first ∙ ap (λ (n : ℕ). found old.place x ++ in_turn found text n new.value) (sym next)) t h

    -- of a list whose place is kept beside it
    pub item_listed : {T : Type 0} (view : T → A) (old new : Placed (List A)) (item : T) (place : ℕ) → GivesFirst view text old (Some item) new → place ≡ old.place →
        TakenUpTo Takes a b (in_turn found text old.place old.value) all → Takes b (found place (view item)) c → TakenUpTo Takes a c (in_turn found text new.place new.value) all
    item_listed view old new item place gives same t h =
        first_listed old new (view item) gives.0 gives.1 t (subst (λ (n : ℕ). Takes b (found n (view item)) c) same h)

    -- of parts that know their place
    pub part_listed : (old new : Placed (List A)) (part : Placed A) → GivesPart text old (Some part) new →
        TakenUpTo Takes a b (in_turn found text old.place old.value) all → Takes b (found part.place part.value) c → TakenUpTo Takes a c (in_turn found text new.place new.value) all
    part_listed old new part gives t h =
        let place_is : part.place ≡ old.place = sym (ap (λ (p : Placed (List A)). p.place) gives.0) in
        first_listed old new part.value (ap (λ (p : Placed (List A)). p.value) gives.0) (gives.1 ∙ ap (λ (n : ℕ). n + 4 * length (text part.value)) place_is) t
        (subst (λ (n : ℕ). Takes b (found n part.value) c) place_is h)

  -- The first hunk is listed.
  pub hunk_listed : (a b c : S) (all : List Warning) (sizes : List ℕ) (number : ℕ) (old new : Placed LoadFileValue) (h : Placed HunkValue) → GivesPart hunk_text old (Some h) new →
      TakenUpTo Takes a b (hunks_warnings sizes number old.place old.value) all → Takes b (blocks_warnings (facts_of sizes number h.value) h.place h.value.blocks) c →
      TakenUpTo Takes a c (hunks_warnings sizes (number + 1) new.place new.value) all
  hunk_listed a b c all sizes number old new h gives t taken =
      let here = blocks_warnings (facts_of sizes number h.value) h.place h.value.blocks in
      let left = λ (n : ℕ) (p : Placed LoadFileValue). hunks_warnings sizes n p.place p.value in
      taken_on Takes more a b c here (left (number + 1) new) (left number old) all
      (ap (left number) gives.0 ∙ ap (λ (n : ℕ). here ++ hunks_warnings sizes (number + 1) n new.value) (sym gives.1)) t taken
