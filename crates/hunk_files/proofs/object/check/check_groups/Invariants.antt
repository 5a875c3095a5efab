use Rattle.std.proofs.Common.{◌≡◌, length}
use Rattle.hunk_files.specs.PlacedFindings.{groups_findings_at}
use Rattle.hunk_files.proofs.findings.FindingSteps.{TakenUpTo}
use Rattle.hunk_files.proofs.object.check.check_groups.Given as goal

abbrev pub invariant-checking : goal.invariant-checking
invariant-checking g l =
    let left = groups_findings_at l.spot l.width in
    (l.place ≡ l.groups.place)
    × TakenUpTo g.T.Takes.takes l.fn.taker l.taker (left l.groups.place l.groups.value) (left l.fn.groups.place l.fn.groups.value)

abbrev pub decreases-checking : goal.decreases-checking
decreases-checking g l = length l.groups.value
