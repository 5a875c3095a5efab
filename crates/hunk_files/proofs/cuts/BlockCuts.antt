-- The text of a hunk is cut into its blocks and what stands after it.
use Rattle.std.proofs.Common.{rules, ◌≡◌, ℕ, Bool, true, false, zero, suc, ◌≤◌, List, [], ◌∷◌, ◌++◌, length, refl, sym, ap, ◌∙◌, append_assoc, length-append, arith}
use Rattle.std.specs.{Prelude.if◌then◌else◌, List.AllByRecursion}
use Rattle.hunk_blocks.specs.{Values.{BlockValue, IsBlock}, Parts.block_text, Cuts.{Cut, cut_map, block_cut}}
use Rattle.hunk_blocks.proofs.CutLaws.{cut, block_cut_is}
use Rattle.hunk_grammar.specs.Standings.{is_ending}
use Rattle.hunk_files.specs.{LoadFile.{AreInOrder, standing}, Hunks.block_texts, Cuts.{blocks_cut, hunk_cut}}
use Rattle.hunk_files.proofs.{walk.FileText.standings, cuts.OneReading.order_stops}

-- each block has a longword
pub few_blocks : (blocks : List BlockValue) → length blocks ≤ length (block_texts blocks)
few_blocks [] = omega arith
few_blocks (b ∷ blocks) = omega (arith, few_blocks blocks, length-append (block_text b) (block_texts blocks))

-- Blocks up to END are cut out, if they may be as many.
pub blocks_cut_is : (most : ℕ) (has_content : Bool) (blocks : List BlockValue) (rest : List ℕ) → AllByRecursion IsBlock blocks → AreInOrder has_content (standings blocks) → length blocks ≤ most →
    blocks_cut most (block_texts blocks ++ rest) ≡ cut blocks rest
unfolding blocks_cut
blocks_cut_is most has_content [] rest is order few = absurd order
blocks_cut_is zero has_content (b ∷ blocks) rest is order few = absurd (omega (arith, few))
blocks_cut_is (suc most) has_content (b ∷ blocks) rest is order few =
    let after = block_texts blocks ++ rest in
    let split : block_cut (block_texts (b ∷ blocks) ++ rest) ≡ cut b after = ap block_cut (append_assoc (block_text b) (block_texts blocks) rest) ∙ block_cut_is b after is.0 in
    let step : Cut BlockValue → Cut (List BlockValue) =
    λ block. if is_ending (standing block.value.body) then cut_map (λ x. x ∷ []) block else cut_map (λ xs. block.value ∷ xs) (blocks_cut most block.rest) in
    ap step split ∙ go (is_ending (standing b.body)) refl (λ k o. blocks_cut_is most k blocks rest is.1 o (omega (arith, few)))
  where
    go : (ends : Bool) → is_ending (standing b.body) ≡ ends → ((k : Bool) → AreInOrder k (standings blocks) → blocks_cut most (block_texts blocks ++ rest) ≡ cut blocks rest) →
        (if ends then cut (b ∷ []) (block_texts blocks ++ rest) else cut_map (λ xs. b ∷ xs) (blocks_cut most (block_texts blocks ++ rest))) ≡ cut (b ∷ blocks) rest
    go true e more = ap (λ (bs : List BlockValue). cut (b ∷ []) (block_texts bs ++ rest)) (order_stops has_content (standing b.body) blocks order e) ∙ ap (λ (bs : List BlockValue). cut (b ∷ bs) rest) (sym (order_stops has_content (standing b.body) blocks order e))
    go false e more = search rules

-- The like of as many as there are longwords.
pub hunk_cut_is : (has_content : Bool) (blocks : List BlockValue) (rest : List ℕ) → AllByRecursion IsBlock blocks → AreInOrder has_content (standings blocks) → hunk_cut (block_texts blocks ++ rest) ≡ cut blocks rest
hunk_cut_is has_content blocks rest is order =
    blocks_cut_is (length (block_texts blocks ++ rest)) has_content blocks rest is order (omega (arith, few_blocks blocks, length-append (block_texts blocks) rest))
