use Rattle.std.proofs.Common.{◌+◌, ◌*◌, ◌<◌, ◌^◌, length}
use Rattle.std.specs.List.{AllByRecursion}
use Rattle.hunk_words.specs.Bits.{size_longs}
use Rattle.hunk_files.specs.LoadFile.{IsInside}
use Rattle.hunk_files.proofs.findings.FindingSteps.{TakenUpTo}
use Rattle.hunk_lint.specs.{Known.seen, Warnings.offsets_warnings}
use Rattle.hunk_lint.proofs.listing.list_group.Given as goal

abbrev pub invariant-listing : goal.invariant-listing
invariant-listing g l =
    let left = offsets_warnings (seen l.hunk) l.group.target in
    (l.place + 4 * length l.offset-iterator < 2 ^ 64)
    × AllByRecursion (IsInside (size_longs l.hunk.size.word)) l.offset-iterator
    × TakenUpTo g.T.Takes.takes l.fn.taker l.taker (left l.place l.offset-iterator) (left (l.fn.start + 8) l.fn.group.offsets)
