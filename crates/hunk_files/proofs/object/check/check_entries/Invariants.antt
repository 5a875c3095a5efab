use Rattle.std.proofs.Common.{length}
use Rattle.std.specs.List.{AllByRecursion}
use Rattle.hunk_blocks.specs.Values.{IsExtEntry}
use Rattle.hunk_files.specs.PlacedFindings.{entries_findings_at}
use Rattle.hunk_files.proofs.findings.FindingSteps.{TakenUpTo}
use Rattle.hunk_files.proofs.object.check.check_entries.Given as goal

abbrev pub invariant-checking : goal.invariant-checking
invariant-checking g l =
    let left = entries_findings_at l.spot in
    AllByRecursion IsExtEntry l.entries.value
    × TakenUpTo g.T.Takes.takes l.fn.taker l.taker (left l.entries.place l.entries.value) (left l.fn.entries.place l.fn.entries.value)

abbrev pub decreases-checking : goal.decreases-checking
decreases-checking g l = length l.entries.value
