-- Rows that are listed one after the other.
use Rattle.std.proofs.Common.{◌≡◌, ℕ, List, [], ◌∷◌, ◌++◌, sym, ap, ◌∙◌, Some}
use Rattle.hunk_blocks.specs.Placed.{GivesFirst, Placed}
use Rattle.hunk_files.proofs.findings.FindingSteps.{TakenUpTo, taken_on}
use Rattle.hunk_parts.specs.Listing.{item_rows}

module _ {T A Row : Type 0} (view : T → A) (row : ℕ → A → Row) (text : A → List ℕ) where
  -- the rows that are left
  abbrev pub left : Placed (List A) → List Row
  left items = item_rows row text items.place items.value

  -- Of items with one row each the first is taken.
  pub item_taken : {S : Type 0} (Takes : S → List Row → S → Type 0) → ((a b c : S) (xs ys : List Row) → Takes a xs b → Takes b ys c → Takes a (xs ++ ys) c) →
      (a b c : S) (old new first : Placed (List A)) (item : T) (r : Row) → GivesFirst view text old (Some item) new → r ≡ row old.place (view item) →
      TakenUpTo Takes a b (left old) (left first) → Takes b (r ∷ []) c → TakenUpTo Takes a c (left new) (left first)
  item_taken Takes more a b c old new first item r gives is t h =
      taken_on Takes more a b c (r ∷ []) (left new) (left old) (left first)
      (
      ap (λ (xs : List A). item_rows row text old.place xs) gives.0
      ∙ ap (λ (n : ℕ). row old.place (view item) ∷ item_rows row text n new.value) (sym gives.1)
      ∙ ap (λ (x : Row). x ∷ left new) (sym is)
      ) t h
