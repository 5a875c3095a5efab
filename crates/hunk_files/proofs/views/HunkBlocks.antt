-- Blocks and hunks that stand at a byte.
use Rattle.std.proofs.Common.{◌≡◌, ℕ, ◌+◌, ◌*◌, ◌≤◌, List, [], ◌∷◌, ◌++◌, length, take, drop, sym, ap, ◌∙◌, arith, inl}
use Rattle.std.proofs.lemmas.List.{length-append, length-drop, length-take-le, take-append-drop, take_at}
use Rattle.hunk_words.specs.Longs.{longs, bytes_of}
use Rattle.hunk_words.proofs.LongLaws.{length-bytes_of, longs-bytes_of}
use Rattle.hunk_blocks.specs.{Values.BlockValue, Parts.block_text, Begins.{BeginsWithSomeBlock, IsFrontBlock}}
use Rattle.hunk_blocks.proofs.{BlockLongs.block_longs, BlockPrefix.block_same}
use Rattle.hunk_files.specs.{ObjectFile.IsObjectHunk, Hunks.{BlockAt, HunkAt, IsRead, block_texts}}
use Rattle.hunk_files.specs.Lacks.{EndsAt, EndsHunkPart}
use Rattle.hunk_files.proofs.views.PlaceLaws.{ends_map, last_at, text_inside}

-- ---- the block that stands at a byte

module _ (bytes : List ℕ) (start : ℕ) (here : BlockAt bytes start) where
  pub block_inside : start + 4 * length (block_text here.block) ≤ length bytes
  block_inside = text_inside bytes start (block_text here.block) here.rest here.text (omega arith)

  pub some_block : BeginsWithSomeBlock (drop start bytes)
  some_block =
      record {
        value = here.block;
        size = 4 * length (block_text here.block);
        front =
            record {
              block = here.is;
              text = ap (take (4 * length (block_text here.block))) here.text ∙ take_at (bytes_of (block_text here.block)) here.rest (4 * length (block_text here.block)) (length-bytes_of (block_text here.block));
              whole = omega (arith, block_inside, length-drop start bytes);
            };
      }

  -- No other block is in front.
  same_block : (b : BlockValue) (n : ℕ) → IsFrontBlock (drop start bytes) b n → b ≡ here.block
  same_block b n f =
      let rest = drop start bytes in
      let words : longs rest ≡ block_text b ++ longs (drop n rest) =
      ap longs (sym (take-append-drop n rest) ∙ ap (λ (l : List ℕ). l ++ drop n rest) f.text) ∙ longs-bytes_of (block_text b) (drop n rest) (block_longs b f.block) in
      (block_same b here.block (longs (drop n rest)) (longs here.rest) f.block here.is
      (sym words ∙ ap longs here.text ∙ longs-bytes_of (block_text here.block) here.rest (block_longs here.block here.is))).0

  pub block_read : (b : BlockValue) (n : ℕ) → IsFrontBlock (drop start bytes) b n → IsRead block_text here.block start b (start + n)
  block_read b n f =
      let same = same_block b n f in
      let size : start + n ≡ start + 4 * length (block_text b) = omega (arith, ap length f.text, length-take-le n (drop start bytes) f.whole, length-bytes_of (block_text b)) in
      (same, size ∙ ap (λ (x : BlockValue). start + 4 * length (block_text x)) same)

-- ---- the parts of a hunk

pub some_text : (bs : List BlockValue) → IsObjectHunk bs → 1 ≤ length (block_texts bs)
some_text [] is = absurd is.order
some_text (b ∷ bs) is = omega (arith, length-append (block_text b) (block_texts bs))

-- Where a hunk ends, a part of it does.
pub hunk_ends : (bs : List BlockValue) (start end place : ℕ) → IsObjectHunk bs → end ≡ start + 4 * length (block_texts bs) → place + 4 ≡ end → EndsAt (EndsHunkPart bs) start place
hunk_ends bs start end place is e p =
    ends_map (λ n last. inl last) (last_at (block_texts bs) start end place (some_text bs is) e p)

module _ (bytes : List ℕ) (start : ℕ) (hunk : HunkAt bytes start) where
  pub hunk_inside : start + 4 * length (block_texts hunk.blocks) ≤ length bytes
  hunk_inside = text_inside bytes start (block_texts hunk.blocks) hunk.rest hunk.text (some_text hunk.blocks hunk.is)
