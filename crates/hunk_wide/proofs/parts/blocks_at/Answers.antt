use Rattle.std.proofs.Common.{arith}
use Rattle.hunk_wide.proofs.AsIs.{block_from, part_as_is}
use Rattle.hunk_wide.proofs.Written.{part_length}
use Rattle.hunk_wide.proofs.parts.blocks_at.Goals as goal

pub blocks-2-smaller : goal.blocks-2-smaller
blocks-2-smaller c = let block = c.in-Some.ensures.some in omega (arith, block.word, block.whole, part_length c.blocks-2.at c.args.bytes.now)

pub blocks-2-preserved : goal.blocks-2-preserved
blocks-2-preserved c =
    let block = c.in-Some.ensures.some in
    record {
      inside = omega (arith, block.whole, part_length c.blocks-2.at c.args.bytes.now);
      as_is = part_as_is _ _ _ c.args.bytes.now c.blocks-2.at c.in-Some.block.size c.blocks-2.invariant.as_is (block_from _ _ c.blocks-2.is_first _ _ _ block);
    }
