-- A load file has no units, and no EXT blocks, so no rows of what stands in them.
use Rattle.std.proofs.Common.{◌≡◌, ℕ, ◌+◌, ◌*◌, List, [], ◌∷◌, ◌++◌, length, map, refl, ap, ◌∙◌}
use Rattle.std.specs.List.{AllByRecursion, flat_map}
use Rattle.hunk_grammar.specs.declared.mode.Mode.TheVariants as modes
use Rattle.hunk_blocks.specs.Modes.{IsOfLoadMode, IsOfMode}
use Rattle.hunk_blocks.specs.{Parts.block_text, Values.{BlockBody, BlockValue, Ext}}
use Rattle.hunk_files.specs.Items.{ItemValue, HunkItem, BlockItem, blocks_items, hunks_items, item_text}
use Rattle.hunk_files.specs.ObjectFile.{ObjectHunk}
use Rattle.hunk_files.specs.{LoadFile.{HunkValue, IsHunk, IsHunkBlock, IsLoadFile, LoadFileValue, declared_longs}, StandingBlocks.{StandingBlock, items_blocks, standing_blocks}, Tables.header_text}
use Rattle.hunk_files.specs.declared.hunk_file.HunkFile.TheVariants as files
use Rattle.hunk_c.specs.Entries.{block_rows, body_rows, entries_in}
use Rattle.hunk_c.specs.References.{blocks_references, body_entries, body_references, references_in}
use Rattle.hunk_c.specs.Units.{items_units, units_in}

abbrev IsOfLoadFile : StandingBlock → Type 0
IsOfLoadFile s = IsOfMode modes.Load s.block.value

module _ (hunks : ℕ) where
  blocks_are : (place hunk longs : ℕ) (bs : List BlockValue) (rest : List ItemValue) → AllByRecursion (IsHunkBlock hunks longs) bs → ((at : ℕ) → AllByRecursion IsOfLoadFile (items_blocks at rest)) →
      AllByRecursion IsOfLoadFile (items_blocks place (blocks_items 0 hunk bs ++ rest))
  blocks_are place hunk longs [] rest each after = after place
  blocks_are place hunk longs (b ∷ bs) rest each after = (each.0.mode, blocks_are (place + 4 * length (block_text b)) hunk longs bs rest each.1 after)

  hunks_are : (place number : ℕ) (hs : List HunkValue) → AllByRecursion (IsHunk hunks) hs → AllByRecursion IsOfLoadFile (items_blocks place (hunks_items 0 number (map (λ (h : HunkValue). h.blocks) hs)))
  hunks_are place number [] each = tt
  hunks_are place number (h ∷ hs) each =
      blocks_are place number (declared_longs h) h.blocks (hunks_items 0 (number + 1) (map (λ (h : HunkValue). h.blocks) hs)) each.0.blocks (λ at. hunks_are at (number + 1) hs each.1)

standing_are : (v : LoadFileValue) (rest : ℕ) → IsLoadFile v → AllByRecursion IsOfLoadFile (standing_blocks (files.Load v rest))
standing_are v rest h = hunks_are (length v) (4 * length (header_text v)) 0 v h.each

no_rows : (s : StandingBlock) → IsOfLoadFile s → block_rows s ≡ []
no_rows s h = go s.block.value.word s.block.value.body h
  where
    go : (word : ℕ) (body : BlockBody) → IsOfLoadMode word body → body_rows s.unit s.hunk s.block.place body ≡ []
    go word (Ext entries) h = absurd h
    go word body h = refl

no_entries : (ss : List StandingBlock) → AllByRecursion IsOfLoadFile ss → flat_map block_rows ss ≡ []
no_entries [] each = refl
no_entries (s ∷ ss) each = ap (λ (rows : List _). rows ++ flat_map block_rows ss) (no_rows s each.0) ∙ no_entries ss each.1

pub entries_none : (v : LoadFileValue) (rest : ℕ) → IsLoadFile v → entries_in (files.Load v rest) ≡ []
entries_none v rest h = no_entries (standing_blocks (files.Load v rest)) (standing_are v rest h)

no_references : (number : ℕ) (ss : List StandingBlock) → AllByRecursion IsOfLoadFile ss → blocks_references number ss ≡ []
no_references number [] each = refl
no_references number (s ∷ ss) each = go s.block.value.word s.block.value.body each.0 (λ n. no_references n ss each.1)
  where
    go : (word : ℕ) (body : BlockBody) → IsOfLoadMode word body → ((n : ℕ) → blocks_references n ss ≡ []) →
        body_references number s.block.place body ++ blocks_references (number + body_entries body) ss ≡ []
    go word (Ext entries) h more = absurd h
    go word body h more = more (number + 0)

pub references_none : (v : LoadFileValue) (rest : ℕ) → IsLoadFile v → references_in (files.Load v rest) ≡ []
references_none v rest h = no_references 0 (standing_blocks (files.Load v rest)) (standing_are v rest h)

-- ---- units

-- hunks and blocks have none
blocks_none : (place unit hunk : ℕ) (bs : List BlockValue) (rest : List ItemValue) → ((at : ℕ) → items_units at rest ≡ []) → items_units place (blocks_items unit hunk bs ++ rest) ≡ []
blocks_none place unit hunk [] rest none = none place
blocks_none place unit hunk (b ∷ bs) rest none = blocks_none (place + 4 * length (item_text (BlockItem unit hunk b))) unit hunk bs rest none

hunks_none : (place unit number : ℕ) (hs : List ObjectHunk) → items_units place (hunks_items unit number hs) ≡ []
hunks_none place unit number [] = refl
hunks_none place unit number (h ∷ hs) =
    blocks_none (place + 4 * length (item_text (HunkItem unit number h))) unit number h (hunks_items unit (number + 1) hs) (λ at. hunks_none at unit (number + 1) hs)

pub units_none : (v : LoadFileValue) (rest : ℕ) → units_in (files.Load v rest) ≡ []
units_none v rest = hunks_none (4 * length (header_text v)) 0 0 (map (λ (h : HunkValue). h.blocks) v)
