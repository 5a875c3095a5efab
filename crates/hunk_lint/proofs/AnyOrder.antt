-- The warnings of a hunk do not depend on the order of its offsets.
use Rattle.std.proofs.Common.{◌≡◌, ℕ, ◌+◌, ◌*◌, ◌==◌, cond, List, [], ◌∷◌, ◌++◌, length, refl, ap₂}
use Rattle.std.specs.List.Sorted.{IsPermutation}
use Rattle.std.proofs.lemmas.List.Sorted.{sum_by-IsPermutation}
use Rattle.hunk_blocks.specs.Parts.{block_text, group_text}
use Rattle.hunk_blocks.specs.Values.{BlockBody, BlockValue, Reloc}
use Rattle.hunk_lint.specs.Suspicious.{is_close}
use Rattle.hunk_lint.specs.Facts.{HunkFacts}
use Rattle.hunk_lint.specs.Warnings.{block_warnings, blocks_warnings, body_warnings, group_warnings, in_turn, offset_warnings}
use Rattle.hunk_lint.specs.declared.warning.Warning.{Warning}
use Rattle.hunk_lint.proofs.Least.{least_in_order}

same_in_turn : {A : Type 0} (found other : ℕ → A → List Warning) (text : A → List ℕ) → ((place : ℕ) (x : A) → found place x ≡ other place x) → (place : ℕ) (xs : List A) →
    in_turn found text place xs ≡ in_turn other text place xs
same_in_turn found other text same place [] = refl
same_in_turn found other text same place (x ∷ xs) =
    ap₂ (λ (ws vs : List Warning). ws ++ vs) (same place x) (same_in_turn found other text same (place + 4 * length (text x)) xs)

module _ (f : HunkFacts) (sorted : List ℕ) (order : IsPermutation f.offsets sorted) where
  offset_same : (target place offset : ℕ) → offset_warnings (record f { offsets = sorted }) target place offset ≡ offset_warnings f target place offset
  offset_same target place offset =
      simp (sum_by-IsPermutation (λ (o : ℕ). cond (o == offset) 1 0) f.offsets sorted order, least_in_order (is_close offset) f.offsets sorted order)

  body_same : (place word : ℕ) (body : BlockBody) → body_warnings (record f { offsets = sorted }) place word body ≡ body_warnings f place word body
  body_same place word (Reloc groups) =
      same_in_turn (group_warnings (record f { offsets = sorted })) (group_warnings f) group_text
      (λ at g. same_in_turn (offset_warnings (record f { offsets = sorted }) g.target) (offset_warnings f g.target) (λ offset. offset ∷ []) (offset_same g.target) (at + 8) g.offsets) (place + 4) groups
  body_same place word _ = refl

  pub same_in_order : (place : ℕ) (blocks : List BlockValue) → blocks_warnings (record f { offsets = sorted }) place blocks ≡ blocks_warnings f place blocks
  same_in_order place blocks = same_in_turn (block_warnings (record f { offsets = sorted })) (block_warnings f) block_text (λ at b. body_same at b.word b.body) place blocks
