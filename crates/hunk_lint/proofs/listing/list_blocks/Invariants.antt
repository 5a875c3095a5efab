use Rattle.std.proofs.Common.{length}
use Rattle.std.specs.List.{AllByRecursion}
use Rattle.hunk_words.specs.Bits.{size_longs}
use Rattle.hunk_blocks.specs.Values.{BlockValue}
use Rattle.hunk_files.specs.LoadFile.{FitsHunk}
use Rattle.hunk_files.proofs.findings.FindingSteps.{TakenUpTo}
use Rattle.hunk_lint.specs.{Known.seen, Warnings.blocks_warnings}
use Rattle.hunk_lint.proofs.listing.list_blocks.Given as goal

abbrev pub invariant-listing : goal.invariant-listing
invariant-listing g l =
    let left = blocks_warnings (seen l.hunk) in
    AllByRecursion (λ (b : BlockValue). FitsHunk (length l.hunk.sizes.now) (size_longs l.hunk.size.word) b.body) l.blocks.value
    × TakenUpTo g.T.Takes.takes l.fn.taker l.taker (left l.blocks.place l.blocks.value) (left l.fn.blocks.place l.fn.blocks.value)

abbrev pub decreases-listing : goal.decreases-listing
decreases-listing g l = length l.blocks.value
