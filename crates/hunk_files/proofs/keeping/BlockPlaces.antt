-- Where memory is refused while the blocks of a hunk are kept.
use Rattle.std.proofs.Common.{◌≡◌, ℕ, ◌+◌, List, refl, subst, arith, inl, inr, Option, Some}
use Rattle.hunk_blocks.specs.{Begins.LacksItemAt, Parts.block_text, Placed.Placed, Values.BlockValue}
use Rattle.hunk_files.specs.{InPlace.GivesPart, Lacks.{EndsAt, EndsBlockPart, EndsHunkPart}}
use Rattle.hunk_files.proofs.{views.PlaceLaws.{ends_map, last_at}, views.PartsInTurn.{Taken, part_within}}

module _ (all old new : Placed (List BlockValue)) (done : List BlockValue) (found : Option (Placed BlockValue)) (block : Placed BlockValue) (t : Taken block_text all old done) (same : found ≡ Some block)
    (gives : GivesPart block_text old found new) where
  within : (place : ℕ) → EndsAt (EndsBlockPart block.value) block.place place → EndsAt (EndsHunkPart all.value) all.place place
  within place e = ends_map (λ n part. inr part) (part_within block_text all old new done found block t same gives EndsBlockPart place e)

  -- for a group or an entry of the block
  pub item_lacks : (place : ℕ) → LacksItemAt block place → EndsAt (EndsHunkPart all.value) all.place place
  item_lacks place l = within place (record { number = 1 + l.number; ends = inr (record { number = l.number; ends = l.ends; place = refl }); place = l.place })

  -- for the block
  pub block_lacks : (place : ℕ) → place + 4 ≡ new.place → EndsAt (EndsHunkPart all.value) all.place place
  block_lacks place e =
      let g : GivesPart block_text old (Some block) new = subst (λ f. GivesPart block_text old f new) same gives in
      within place (ends_map (λ n last. inl last) (last_at (block_text block.value) block.place new.place place (omega arith) g.1 e))
