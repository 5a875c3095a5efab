use Rattle.std.proofs.Common.{arith}
use Rattle.hunk_wide.proofs.AsIs.{part_as_is}
use Rattle.hunk_wide.proofs.Written.{part_length}
use Rattle.hunk_wide.proofs.unit_blocks.unit_blocks_at.Goals as goal

pub units-smaller : goal.units-smaller
units-smaller c = let block = c.in-Some.ensures.some in omega (arith, block.word, block.whole, part_length c.units.at c.args.bytes.now)

pub units-preserved : goal.units-preserved
units-preserved c =
    let block = c.in-Some.ensures.some in
    record {
      inside = omega (arith, block.whole, part_length c.units.at c.args.bytes.now);
      as_is = part_as_is _ _ _ c.args.bytes.now c.units.at c.in-Some.size c.units.invariant.as_is block.as_is;
    }
