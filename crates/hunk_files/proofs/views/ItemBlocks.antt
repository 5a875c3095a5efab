-- The blocks among items that are given one by one.
use Rattle.std.proofs.Common.{◌≡◌, ℕ, List, ◌∷◌, sym, ap, ◌∙◌, Some}
use Rattle.hunk_blocks.specs.{Placed.Placed, Values.BlockValue}
use Rattle.hunk_files.specs.{InPlace.GivesPart, Items.{ItemValue, BlockItem, item_text}}
use Rattle.hunk_files.specs.StandingBlocks.{items_blocks}

-- A block is the first of them.
pub block_given : (old new : Placed (List ItemValue)) (unit hunk : ℕ) (b : Placed BlockValue) → GivesPart item_text old (Some (record { place = b.place; value = BlockItem unit hunk b.value })) new →
    items_blocks old.place old.value ≡ record { unit = unit; hunk = hunk; block = b } ∷ items_blocks new.place new.value
block_given old new unit hunk b gives =
    ap (λ (p : Placed (List ItemValue)). items_blocks p.place p.value) gives.0
    ∙ ap (λ (n : ℕ). record { unit = unit; hunk = hunk; block = b } ∷ items_blocks n new.value) (sym gives.1)
