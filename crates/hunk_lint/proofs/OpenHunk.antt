-- The blocks of an open hunk, among the items of a load file.
use Rattle.std.proofs.Common.{◌≡◌, ℕ, ◌+◌, ◌<◌, Bool, true, false, List, [], ◌∷◌, ◌++◌, length, drop, map, refl, sym, ap, subst, ◌∙◌, arith}
use Rattle.hunk_grammar.specs.Standings.{is_ending}
use Rattle.hunk_blocks.specs.Values.{BlockBody, BlockValue, End}
use Rattle.hunk_files.specs.Items.{ItemValue, BlockItem, HunkItem, blocks_items, hunks_items}
use Rattle.hunk_files.specs.LoadFile.{AreInOrder, HunkValue, LoadFileValue, standing}
use Rattle.hunk_files.specs.ObjectFile.{ObjectHunk}
use Rattle.hunk_files.proofs.{walk.FileText.{no_more, standings}, walk.HunkOrder.by_standing}
use Rattle.hunk_lint.specs.NextHunk.{IsAtHunk, after_blocks, blocks_of_first, first_blocks}

-- ---- up to END

-- These are the last blocks of a hunk.
abbrev pub IsOpen : List BlockValue → Type 0
IsOpen bs = (has : Bool) × AreInOrder has (standings bs)

pub some_left : (bs : List BlockValue) → IsOpen bs → 0 < length bs
some_left [] o = absurd o.1
some_left (b ∷ bs) o = omega arith

module _ (old bs : List BlockValue) (b : BlockValue) (first : old ≡ b ∷ bs) (o : IsOpen old) where
  in_order : AreInOrder o.0 (standing b.body ∷ standings bs)
  in_order = subst (λ (xs : List BlockValue). AreInOrder o.0 (standings xs)) first o.1

  pub still_open : is_ending (standing b.body) ≡ false → IsOpen bs
  still_open no_end =
      by_standing (λ has s. is_ending s ≡ false → IsOpen bs) (standings bs) (λ has rest e. (has, rest)) (λ rest e. (true, rest)) (λ rest e. (true, rest)) (λ none e. absurd cc) o.0 (standing b.body)
      in_order no_end

  pub none_left : is_ending (standing b.body) ≡ true → bs ≡ []
  none_left end =
      no_more bs
      (by_standing (λ has s. is_ending s ≡ true → standings bs ≡ []) (standings bs) (λ has rest e. absurd cc) (λ rest e. absurd cc) (λ rest e. absurd cc) (λ none e. none) o.0 (standing b.body)
      in_order end)

pub is_end : (body : BlockBody) → is_ending (standing body) ≡ true → body ≡ End
is_end End e = refl
is_end _ e = absurd cc

-- Where no block comes, all items are left.
pub no_more_items : (items : List ItemValue) → first_blocks items ≡ [] → after_blocks items ≡ items
no_more_items [] e = refl
no_more_items (BlockItem unit hunk b ∷ rest) e = absurd cc
no_more_items (_ ∷ rest) e = refl

-- ---- where a hunk begins

module _ (unit number next : ℕ) (hs : List ObjectHunk) where
  first_are : (bs : List BlockValue) → first_blocks (blocks_items unit number bs ++ hunks_items unit next hs) ≡ bs
  first_are [] = none hs
    where
      none : (hs : List ObjectHunk) → first_blocks (hunks_items unit next hs) ≡ []
      none [] = refl
      none (h ∷ hs) = refl
  first_are (b ∷ bs) = ap (λ (xs : List BlockValue). b ∷ xs) (first_are bs)

  after_are : (bs : List BlockValue) → after_blocks (blocks_items unit number bs ++ hunks_items unit next hs) ≡ hunks_items unit next hs
  after_are [] = same hs
    where
      same : (hs : List ObjectHunk) → after_blocks (hunks_items unit next hs) ≡ hunks_items unit next hs
      same [] = refl
      same (h ∷ hs) = refl
  after_are (b ∷ bs) = after_are bs

-- the items of hunks of a load file, from the one with this number on
abbrev pub items_of : ℕ → LoadFileValue → List ItemValue
items_of number left = hunks_items 0 number (map (λ (h : HunkValue). h.blocks) left)

module _ (number : ℕ) (left rest : LoadFileValue) (h : HunkValue) (first : left ≡ h ∷ rest) (items : List ItemValue) (are : items ≡ items_of number left) where
  begins : items ≡ HunkItem 0 number h.blocks ∷ (blocks_items 0 number h.blocks ++ items_of (number + 1) rest)
  begins = are ∙ ap (items_of number) first

  pub at_hunk : IsAtHunk items
  at_hunk = subst IsAtHunk (sym begins) tt

  pub blocks_are : blocks_of_first items ≡ h.blocks
  blocks_are = ap blocks_of_first begins

  pub opened_are : first_blocks (drop 1 items) ≡ h.blocks
  opened_are = ap (λ (xs : List ItemValue). first_blocks (drop 1 xs)) begins ∙ first_are 0 number (number + 1) (map (λ (h : HunkValue). h.blocks) rest) h.blocks

  pub left_are : after_blocks (drop 1 items) ≡ items_of (number + 1) rest
  left_are = ap (λ (xs : List ItemValue). after_blocks (drop 1 xs)) begins ∙ after_are 0 number (number + 1) (map (λ (h : HunkValue). h.blocks) rest) h.blocks
