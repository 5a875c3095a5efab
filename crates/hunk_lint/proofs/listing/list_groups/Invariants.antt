use Rattle.std.proofs.Common.{◌≡◌, length}
use Rattle.std.specs.List.{AllByRecursion}
use Rattle.hunk_words.specs.Bits.{size_longs}
use Rattle.hunk_files.specs.LoadFile.{FitsGroup}
use Rattle.hunk_files.proofs.findings.FindingSteps.{TakenUpTo}
use Rattle.hunk_lint.specs.{Known.seen, Warnings.groups_warnings}
use Rattle.hunk_lint.proofs.listing.list_groups.Given as goal

abbrev pub invariant-listing : goal.invariant-listing
invariant-listing g l =
    let left = groups_warnings (seen l.hunk) in
    (l.place ≡ l.groups.place)
    × AllByRecursion (FitsGroup (length l.hunk.sizes.now) (size_longs l.hunk.size.word)) l.groups.value
    × TakenUpTo g.T.Takes.takes l.fn.taker l.taker (left l.groups.place l.groups.value) (left l.fn.groups.place l.fn.groups.value)

abbrev pub decreases-listing : goal.decreases-listing
decreases-listing g l = length l.groups.value
