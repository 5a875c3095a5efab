-- Texts that stand one after the other have one reading.
use Rattle.std.proofs.Common.{◌≡◌, ℕ, Bool, true, false, ◌||◌, List, [], ◌∷◌, ◌++◌, map, refl, ap, ap₂, ◌∙◌}
use Rattle.std.specs.List.{AllByRecursion}
use Rattle.std.proofs.lemmas.List.{map-append}
use Rattle.hunk_blocks.specs.{Values.{BlockValue, IsBlock}, Parts.block_parts, Faults.words}
use Rattle.hunk_grammar.specs.BlockParts.{Part}
use Rattle.hunk_files.specs.LoadFile.{HunkValue, IsHunkBlock, AreInOrder, standing, declared_longs}
use Rattle.hunk_files.specs.{LoadText.{block_labelled, blocks_labelled, hunk_labelled}, Hunks.block_texts}
use Rattle.hunk_grammar.specs.Standings.{BlockStanding, Beside, Content, Relocating, Ending, is_content, is_ending}
use Rattle.hunk_grammar.specs.Roles.{Place, Role, InBlock}
use Rattle.hunk_files.proofs.walk.FileText.{standings}

-- ---- blocks in order, up to END

-- After a block that is not END more blocks stand in order.
pub order_left : (has : Bool) (s : BlockStanding) (rest : List BlockStanding) → AreInOrder has (s ∷ rest) → is_ending s ≡ false → (k : Bool) × AreInOrder k rest
order_left true Beside rest o more = (true, o)
order_left false Beside rest o more = (false, o)
order_left false Content rest o more = (true, o)
order_left true Relocating rest o more = (true, o)
order_left true Ending rest o more = absurd cc
order_left _ _ rest o more = absurd o

-- END is the last.
pub order_stops : (has : Bool) (s : BlockStanding) (bs : List BlockValue) → AreInOrder has (s ∷ standings bs) → is_ending s ≡ true → bs ≡ []
order_stops true Ending [] o last = refl
order_stops true Ending (b ∷ bs) o last = absurd cc
order_stops false Ending bs o last = absurd o
order_stops _ _ bs o last = absurd cc

-- ---- the blocks of a hunk

pub are_blocks : (hunks longs : ℕ) (ys : List BlockValue) → AllByRecursion (IsHunkBlock hunks longs) ys → AllByRecursion IsBlock ys
are_blocks hunks longs [] h = tt
are_blocks hunks longs (b ∷ ys) h = (h.0.block, are_blocks hunks longs ys h.1)

-- ---- their words

pub placed_words : (p : Place) (ps : List (Part × ℕ)) → words (map (λ x. (InBlock p x.0, x.1)) ps) ≡ map (λ x. x.1) ps
placed_words p [] = refl
placed_words p (x ∷ ps) = ap (λ (ws : List ℕ). x.1 ∷ ws) (placed_words p ps)

pub blocks_words : (hunks longs : ℕ) (c : Bool) (ys : List BlockValue) → words (blocks_labelled hunks longs c ys) ≡ block_texts ys
blocks_words hunks longs c [] = refl
blocks_words hunks longs c (b ∷ ys) =
    let p : Place = record { hunks = hunks; longs = longs; has_content = c } in
    map-append (λ (x : Role × ℕ). x.1) (block_labelled p b) (blocks_labelled hunks longs (c || is_content (standing b.body)) ys)
    ∙ ap₂ (λ (xs ys : List ℕ). xs ++ ys) (placed_words p (block_parts b)) (blocks_words hunks longs (c || is_content (standing b.body)) ys)

pub hunk_words : (hunks : ℕ) (h : HunkValue) → words (hunk_labelled hunks h) ≡ block_texts h.blocks
hunk_words hunks h = blocks_words hunks (declared_longs h) false h.blocks
