-- The items of a file: their longwords, and what stays of them.
use Rattle.std.proofs.Common.{◌≡◌, ℕ, ◌+◌, Bool, true, false, cond, List, [], ◌∷◌, ◌++◌, map, refl, sym, ap, ap₂, ◌∙◌, append_assoc}
use Rattle.std.specs.List.{flat_map}
use Rattle.std.proofs.lemmas.{Grind.flat_map-append, List.Folds.flat_map-map}
use Rattle.hunk_blocks.specs.{Parts.block_text}
use Rattle.hunk_files.specs.Hunks.{block_texts}
use Rattle.hunk_files.specs.Items.{ItemValue, UnitItem, HunkItem, BlockItem, blocks_items, hunks_items, item_text, units_items}
use Rattle.hunk_files.specs.ItemViews.{kept_text}
use Rattle.hunk_files.specs.ObjectFile.{ObjectFileValue, ObjectHunk, UnitValue, object_text, unit_header, unit_text}
use Rattle.hunk_files.specs.Strip.{is_kept, strip_blocks, strip_object, strip_unit}

-- ---- a text for each item

module _ (f : ItemValue → List ℕ) (g : ObjectHunk → List ℕ) (at_hunk : (u h : ℕ) (x : ObjectHunk) → f (HunkItem u h x) ≡ []) (at_blocks : (u h : ℕ) (bs : ObjectHunk) → flat_map f (blocks_items u h bs) ≡ g bs) where
  hunks_text : (u h : ℕ) (hs : List ObjectHunk) → flat_map f (hunks_items u h hs) ≡ flat_map g hs
  hunks_text u h [] = refl
  hunks_text u h (x ∷ hs) =
      let all = blocks_items u h x ++ hunks_items u (h + 1) hs in
      ap (λ (ws : List ℕ). ws ++ flat_map f all) (at_hunk u h x) ∙ flat_map-append f (blocks_items u h x) (hunks_items u (h + 1) hs)
      ∙ ap₂ (λ (xs ys : List ℕ). xs ++ ys) (at_blocks u h x) (hunks_text u (h + 1) hs)

  units_text : (unit : UnitValue → List ℕ) → ((n : ℕ) (u : UnitValue) → f (UnitItem n u) ++ flat_map g u.hunks ≡ unit u) → (n : ℕ) (us : ObjectFileValue) → flat_map f (units_items n us) ≡ flat_map unit us
  units_text unit at_unit n [] = refl
  units_text unit at_unit n (u ∷ us) =
      let header = f (UnitItem n u) in
      ap (λ (ws : List ℕ). header ++ ws)
      (flat_map-append f (hunks_items n 0 u.hunks) (units_items (n + 1) us) ∙ ap₂ (λ (xs ys : List ℕ). xs ++ ys) (hunks_text n 0 u.hunks) (units_text unit at_unit (n + 1) us))
      ∙ sym (append_assoc header (flat_map g u.hunks) (flat_map unit us))
      ∙ ap (λ (ws : List ℕ). ws ++ flat_map unit us) (at_unit n u)

-- their own longwords are those of the file

own_blocks : (u h : ℕ) (bs : ObjectHunk) → flat_map item_text (blocks_items u h bs) ≡ block_texts bs
own_blocks u h bs = flat_map-map item_text (BlockItem u h) bs

pub hunks_own : (u h : ℕ) (hs : List ObjectHunk) → flat_map item_text (hunks_items u h hs) ≡ flat_map block_texts hs
hunks_own = hunks_text item_text block_texts (λ u h x. refl) own_blocks

pub units_own : (us : ObjectFileValue) → flat_map item_text (units_items 0 us) ≡ object_text us
units_own = units_text item_text block_texts (λ u h x. refl) own_blocks unit_text (λ n u. refl) 0

-- what stays of them is the stripped file

kept_blocks : (u h : ℕ) (bs : ObjectHunk) → flat_map kept_text (blocks_items u h bs) ≡ block_texts (strip_blocks bs)
kept_blocks u h [] = refl
kept_blocks u h (b ∷ bs) = by_test (is_kept b.body) (kept_blocks u h bs)
  where
    by_test : (k : Bool) → flat_map kept_text (blocks_items u h bs) ≡ block_texts (strip_blocks bs) →
        cond k (block_text b) [] ++ flat_map kept_text (blocks_items u h bs) ≡ block_texts (cond k (b ∷ strip_blocks bs) (strip_blocks bs))
    by_test true rest = ap (λ (ws : List ℕ). block_text b ++ ws) rest
    by_test false rest = rest

pub hunks_kept : (u h : ℕ) (hs : List ObjectHunk) → flat_map kept_text (hunks_items u h hs) ≡ flat_map block_texts (map strip_blocks hs)
hunks_kept u h hs = hunks_text kept_text (λ bs. block_texts (strip_blocks bs)) (λ u h x. refl) kept_blocks u h hs ∙ sym (flat_map-map block_texts strip_blocks hs)

pub units_kept : (us : ObjectFileValue) → flat_map kept_text (units_items 0 us) ≡ object_text (strip_object us)
units_kept us =
    units_text kept_text (λ bs. block_texts (strip_blocks bs)) (λ u h x. refl) kept_blocks (λ u. unit_text (strip_unit u))
    (λ n u. ap (λ (ws : List ℕ). unit_header u.name ++ ws) (sym (flat_map-map block_texts strip_blocks u.hunks))) 0 us
    ∙ sym (flat_map-map unit_text strip_unit us)
