-- The hunks of a unit, kept in a list one by one.
use Rattle.std.proofs.Common.{◌≡◌, ℕ, ◌+◌, ◌-◌, ◌*◌, ◌<◌, ◌≤◌, true, false, List, [], ◌∷◌, ◌++◌, length, drop, refl, sym, ap, subst, ◌∙◌, arith, Some, None}
use Rattle.std.specs.List.{flat_map}
use Rattle.hunk_words.specs.Longs.{longs}
use Rattle.hunk_blocks.specs.Placed.{Placed}
use Rattle.hunk_files.specs.{Hunks.{HunkAt, block_texts}, Lacks.{EndsAt, EndsHunkPart, Within}}
use Rattle.hunk_files.specs.{ObjectFile.{ObjectHunk, IsObjectHunk}, ObjectViews.{HunksAt, hunk_at, hunks_at}}
use Rattle.hunk_files.specs.UnitCuts.{ends_unit}
use Rattle.hunk_files.proofs.views.HunkBlocks.{hunk_ends, hunk_inside, some_text}
use Rattle.hunk_files.proofs.views.ObjectViewLaws.{HunkPassed, hunk_at_is, hunk_passed, next_hunk, no_hunk}
use Rattle.hunk_files.proofs.views.PartsInTurn.{Taken, all_taken, part_taken, part_within}

-- The blocks of the hunk that stands here, where its unit goes on.
module _ (bytes : List ℕ) (at : ℕ) (here : HunksAt bytes at) (goes_on : ends_unit (longs (drop at bytes)) ≡ false) (blocks : Placed ObjectHunk) (are : (hunk : HunkAt bytes at) → blocks ≡ record { place = at; value = hunk.blocks }) where
  hunk : HunkAt bytes at
  hunk = next_hunk bytes at here goes_on

  blocks_are : blocks ≡ hunk_at bytes at
  blocks_are = are hunk ∙ ap (λ (bs : ObjectHunk). record { place = at; value = bs }) (sym (hunk_at_is bytes at hunk))

  pub are_hunk : IsObjectHunk blocks.value
  are_hunk = subst IsObjectHunk (sym (ap (λ (p : Placed ObjectHunk). p.value) (are hunk))) hunk.is

  passed : (end : ℕ) → end ≡ blocks.place + 4 * length (block_texts blocks.value) → HunkPassed bytes at end
  passed end e = hunk_passed bytes at here goes_on end (λ hunk. e ∙ ap (λ (p : Placed ObjectHunk). p.place + 4 * length (block_texts p.value)) (are hunk))

  module _ (end : ℕ) (e : end ≡ blocks.place + 4 * length (block_texts blocks.value)) where
    pub hunks_after : HunksAt bytes end
    hunks_after = (passed end e).after

    pub one_more : length (hunks_at bytes at).value ≡ 1 + length (hunks_at bytes end).value
    one_more = omega (arith, ap (λ (p : Placed (List ObjectHunk)). length p.value) (passed end e).gives.0)

    pub nearer : length bytes - end < length bytes - at
    nearer = omega (arith, e, ap (λ (p : Placed ObjectHunk). p.place + 4 * length (block_texts p.value)) (are hunk), some_text hunk.blocks hunk.is, hunk_inside bytes at hunk)

    pub some_after : 4 ≤ end
    some_after = omega (arith, e, some_text blocks.value are_hunk)

  module _ (all : Placed (List ObjectHunk)) (done : List ObjectHunk) (t : Taken block_texts all (hunks_at bytes at) done) where
    -- A part of it is one of the hunks.
    pub part_of_hunk : (place : ℕ) → EndsAt (EndsHunkPart blocks.value) blocks.place place → EndsAt (Within block_texts EndsHunkPart all.value) all.place place
    part_of_hunk place e =
        let end : ℕ = blocks.place + 4 * length (block_texts blocks.value) in
        part_within block_texts all (hunks_at bytes at) (hunks_at bytes end) done (Some (hunk_at bytes at)) (hunk_at bytes at) t refl (passed end refl).gives EndsHunkPart place
        (subst (λ (p : Placed ObjectHunk). EndsAt (EndsHunkPart p.value) p.place place) blocks_are e)

    module _ (end : ℕ) (e : end ≡ blocks.place + 4 * length (block_texts blocks.value)) where
      -- It is kept.
      pub hunk_kept : (kept : ObjectHunk) → kept ≡ blocks.value → Taken block_texts all (hunks_at bytes end) (done ++ kept ∷ [])
      hunk_kept kept same =
          subst (λ (h : ObjectHunk). Taken block_texts all (hunks_at bytes end) (done ++ h ∷ [])) (sym (same ∙ ap (λ (p : Placed ObjectHunk). p.value) blocks_are))
          (part_taken block_texts all (hunks_at bytes at) (hunks_at bytes end) done (Some (hunk_at bytes at)) (hunk_at bytes at) t refl (passed end e).gives)

      -- It ends here.
      pub hunk_lacks : (place : ℕ) → place + 4 ≡ end → EndsAt (Within block_texts EndsHunkPart all.value) all.place place
      hunk_lacks place p = part_of_hunk place (hunk_ends blocks.value blocks.place end place are_hunk e p)

-- Where the unit ends, all are kept.
pub all_kept : (bytes : List ℕ) (at : ℕ) → HunksAt bytes at → ends_unit (longs (drop at bytes)) ≡ true → (all : Placed (List ObjectHunk)) (done : List ObjectHunk) → Taken block_texts all (hunks_at bytes at) done →
    (done ≡ all.value) × (at ≡ all.place + 4 * length (flat_map block_texts all.value))
all_kept bytes at here ends all done t = all_taken block_texts all (hunks_at bytes at) (hunks_at bytes at) done None t refl (no_hunk bytes at here ends, refl)
