-- Printing values one after another.
use Rattle.std.proofs.Common.{rules, ◌≡◌, ℕ, zero, suc, ◌<◌, ◌≤◌, List, [], ◌∷◌, ◌++◌, length, map, get_or, sym, ap, subst, ◌∙◌, append_assoc, arith}
use Rattle.std.specs.List.{flat_map, AllByRecursion}
use Rattle.std.proofs.lemmas.List.Folds.{flat_map-map}
use Rattle.hunk_words.specs.Longs.{bytes_of}
use Rattle.hunk_words.proofs.{LongLaws.{bytes_of-nil, bytes_of-append}, Shown.{ShownUpTo, shown_all}}
use Rattle.hunk_blocks.specs.Parts.{list_text}

bytes_of-flat_map : {A : Type 0} (text : A → List ℕ) (xs : List A) → flat_map (λ x. bytes_of (text x)) xs ≡ bytes_of (flat_map text xs)
bytes_of-flat_map text [] = sym bytes_of-nil
bytes_of-flat_map text (x ∷ xs) = ap (λ l. bytes_of (text x) ++ l) (bytes_of-flat_map text xs) ∙ sym (bytes_of-append (text x) (flat_map text xs))

-- the longwords of all of them
pub texts_shown : {A : Type 0} (text : A → List ℕ) (xs : List A) (i : ℕ) (now old : List ℕ) →
    length xs ≤ i → ShownUpTo (λ x. bytes_of (text x)) xs i now old → now ≡ old ++ bytes_of (flat_map text xs)
texts_shown text xs i now old end shown = search (rules, shown_all, bytes_of-flat_map)

-- and the zero that ends them
pub list_shown : {A B : Type 0} (f : A → B) (text : B → List ℕ) (xs : List A) (i : ℕ) (now new old : List ℕ) →
    length xs ≤ i → ShownUpTo (λ x. bytes_of (text (f x))) xs i now old → new ≡ now ++ bytes_of (0 ∷ []) → new ≡ old ++ bytes_of (list_text text (map f xs))
list_shown f text xs i now new old end shown last =
    last ∙ ap (λ l. l ++ bytes_of (0 ∷ [])) (texts_shown (λ x. text (f x)) xs i now old end shown)
    ∙ append_assoc old (bytes_of (flat_map (λ x. text (f x)) xs)) (bytes_of (0 ∷ []))
    ∙ ap (λ l. old ++ l) (sym (bytes_of-append (flat_map (λ x. text (f x)) xs) (0 ∷ [])) ∙ ap (λ l. bytes_of (l ++ 0 ∷ [])) (sym (flat_map-map text f xs)))

-- of values that are all of a kind, number i is
pub all_at : {A B : Type 0} (P : B → Type 0) (f : A → B) (xs : List A) (i : ℕ) (x : A) → AllByRecursion P (map f xs) → i < length xs → x ≡ get_or xs i x → P (f x)
all_at P f [] i x h below at = absurd (omega (arith, below))
all_at P f (y ∷ xs) zero x h below at = subst (λ z. P (f z)) (sym at) h.0
all_at P f (y ∷ xs) (suc i) x h below at = all_at P f xs i x h.1 (omega (arith, below)) at
