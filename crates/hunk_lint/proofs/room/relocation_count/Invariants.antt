use Rattle.std.proofs.Common.{◌≡◌, ◌+◌, ◌<◌, ◌^◌, length}
use Rattle.hunk_words.specs.Carriers.{saturated}
use Rattle.hunk_lint.specs.Collecting.{blocks_offsets}
use Rattle.hunk_lint.proofs.room.relocation_count.Given as goal

abbrev pub invariant-counting : goal.invariant-counting
invariant-counting l = record {
  fits : l.count < 2 ^ 64;
  left : saturated (l.count + length (blocks_offsets l.blocks.value)) ≡ saturated (length (blocks_offsets l.fn.blocks.value));
}

abbrev pub decreases-counting : goal.decreases-counting
decreases-counting l = length l.blocks.value
