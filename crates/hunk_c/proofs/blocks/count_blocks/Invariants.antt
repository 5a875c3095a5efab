use Rattle.std.specs.List.{flat_map}
use Rattle.hunk_files.specs.{FileView.file_of, StandingBlocks.items_blocks}
use Rattle.hunk_files.proofs.findings.FindingSteps.{TakenUpTo}
use Rattle.hunk_c.specs.{Blocks.{block_rows, blocks_in}, Counting.Counts}
use Rattle.hunk_c.proofs.blocks.count_blocks.Given as goal

abbrev pub invariant-counting : goal.invariant-counting
invariant-counting l =
    TakenUpTo Counts 0 l.count (flat_map block_rows (items_blocks l.item-iterator.place l.item-iterator.value)) (blocks_in (file_of l.fn.file))
