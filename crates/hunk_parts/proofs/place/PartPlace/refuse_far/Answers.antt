use Rattle.std.proofs.Common.{arith}
use Rattle.hunk_words.proofs.LongLaws.{length-longs}
use Rattle.hunk_parts.specs.PartFaults.{size_of_part}
use Rattle.hunk_parts.specs.RowsText.{part_seen}
use Rattle.hunk_parts.proofs.GroupOffsets.{few_offsets}
use Rattle.hunk_parts.proofs.place.PartPlace.refuse_far.Goals as goal

pub refuse_offsets-requires : goal.refuse_offsets-requires
refuse_offsets-requires c =
    let s = c.args.part.now in
    omega (arith, few_offsets c.args.self (size_of_part (part_seen s)) c.if-part-ne-GROUP_PART.false c.requires, length-longs s.offsets.now)
