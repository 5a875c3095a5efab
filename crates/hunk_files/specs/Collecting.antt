-- What is kept of the findings that are taken.
use Rattle.std.specs.Prelude.{◌≡◌, Bool, false, List, [], ◌∷◌, ◌++◌, map}
use Rattle.std.proofs.Common.{refl, sym, ap, subst, ◌∙◌, append-nil, append_assoc}
use Rattle.std.proofs.lemmas.List.{map-append}
use Rattle.hunk_files.specs.declared.object.check.Finding.{Finding}

-- These are kept too, unless some are lost. Where there are none, nothing is lost.
pub record Keeps (lost : Bool) (old xs : List Finding) (lost2 : Bool) (new : List Finding) : Type 0 where
  pub kept : lost2 ≡ false → (lost ≡ false) × (new ≡ old ++ xs)
  pub unlost : lost ≡ false → xs ≡ [] → lost2 ≡ false

pub keeps_none : (lost : Bool) (kept : List Finding) → Keeps lost kept [] lost kept
keeps_none lost kept = record { kept = λ none. (none, sym (append-nil kept)); unlost = λ none empty. none }

no_front : (xs ys : List Finding) → xs ++ ys ≡ [] → (xs ≡ []) × (ys ≡ [])
no_front [] ys e = (refl, e)
no_front (x ∷ xs) ys e = absurd cc

pub keeps_more : (la lb lc : Bool) (a b c xs ys : List Finding) → Keeps la a xs lb b → Keeps lb b ys lc c → Keeps la a (xs ++ ys) lc c
keeps_more la lb lc a b c xs ys first next = record {
  kept = λ none.
      let late = next.kept none in
      let early = first.kept late.0 in
      (early.0, late.1 ∙ ap (λ (zs : List Finding). zs ++ ys) early.1 ∙ append_assoc a xs ys);
  unlost = λ none empty.
      let both = no_front xs ys empty in
      next.unlost (first.unlost none both.0) both.1;
}

-- What takes rows of some items, and then of others, takes those of all.
pub mapped_more : {S A Row : Type 0} (row : A → Row) (Takes : S → List Row → S → Type 0) → ((a b c : S) (xs ys : List Row) → Takes a xs b → Takes b ys c → Takes a (xs ++ ys) c) →
    (a b c : S) (xs ys : List A) → Takes a (map row xs) b → Takes b (map row ys) c → Takes a (map row (xs ++ ys)) c
mapped_more {S} {A} {Row} row Takes more a b c xs ys first next =
    subst (λ (zs : List Row). Takes a zs c) (sym (map-append row xs ys)) (more a b c (map row xs) (map row ys) first next)
