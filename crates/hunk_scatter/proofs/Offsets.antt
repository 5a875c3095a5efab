-- A list of offsets at once.
use Rattle.std.proofs.Common.{rules, ◌≡◌, ℕ, ◌+◌, ◌*◌, ◌<◌, ◌≤◌, List, [], ◌∷◌, ◌++◌, length, take, drop-cons, get_or, refl, ap, ◌∙◌, arith}
use Rattle.std.proofs.lemmas.Grind.{common_steps}
use Rattle.std.proofs.Math.Seq.{take-add}
use Rattle.std.specs.List.{AllByRecursion}
use Rattle.hunk_words.specs.Longs.{longs}
use Rattle.hunk_words.proofs.LongLaws.{length-longs}
use Rattle.hunk_files.specs.Image.{add_at}
use Rattle.hunk_grammar.specs.Positions.{EndsWithin}
use Rattle.hunk_scatter.specs.StoreContent.{added_at_each}

added_at_each-more : (start base : ℕ) (xs : List ℕ) (y : ℕ) (store : List ℕ) → added_at_each start base (xs ++ y ∷ []) store ≡ add_at (added_at_each start base xs store) (start + y) base
added_at_each-more start base [] y store = refl
added_at_each-more start base (x ∷ xs) y store = added_at_each-more start base xs y (add_at store (start + x) base)

take-more : (xs : List ℕ) (n : ℕ) → n < length xs → take (n + 1) xs ≡ take n xs ++ get_or xs n 0 ∷ []
take-more xs n less = take-add n 1 xs ∙ ap (λ (ys : List ℕ). take n xs ++ take 1 ys) (drop-cons xs n 0 less)

module _ (bytes : List ℕ) (n : ℕ) (within : 4 * n + 4 ≤ length bytes) where
  one_more : take (n + 1) (longs bytes) ≡ take n (longs bytes) ++ get_or (longs bytes) n 0 ∷ []
  one_more = take-more (longs bytes) n (omega (arith, within, length-longs bytes))

  pub adds_more : (start base : ℕ) (first store : List ℕ) → store ≡ added_at_each start base (take n (longs bytes)) first →
      add_at store (start + get_or (longs bytes) n 0) base ≡ added_at_each start base (take (n + 1) (longs bytes)) first
  adds_more start base first store e = search (rules, added_at_each-more, one_more)

  pub inside_more : (limit : ℕ) → AllByRecursion (EndsWithin limit) (take n (longs bytes)) → get_or (longs bytes) n 0 + 4 ≤ limit → AllByRecursion (EndsWithin limit) (take (n + 1) (longs bytes))
  inside_more limit all less = grind (arith, common_steps)
