use Rattle.std.proofs.Common.{◌≡◌, length}
use Rattle.hunk_files.proofs.findings.FindingSteps.{TakenUpTo}
use Rattle.hunk_c.specs.Relocations.{group_rows}
use Rattle.hunk_c.proofs.relocations.list_groups.Given as goal

abbrev pub invariant-listing : goal.invariant-listing
invariant-listing g l =
    (l.place ≡ l.groups.place)
    × TakenUpTo g.T.Takes.takes l.fn.taker l.taker (group_rows l.relocated l.groups.place l.groups.value) (group_rows l.relocated l.fn.groups.place l.fn.groups.value)

abbrev pub decreases-listing : goal.decreases-listing
decreases-listing g l = length l.groups.value
