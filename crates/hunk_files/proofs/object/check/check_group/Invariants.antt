use Rattle.std.proofs.Common.{◌+◌, ◌*◌, ◌<◌, ◌^◌, length}
use Rattle.hunk_files.specs.{Findings.relocation_findings, PlacedFindings.offsets_findings_at}
use Rattle.hunk_files.proofs.findings.FindingSteps.{TakenUpTo}
use Rattle.hunk_files.proofs.object.check.check_group.Given as goal

abbrev pub invariant-checking : goal.invariant-checking
invariant-checking g l =
    let left = offsets_findings_at (relocation_findings l.spot l.width l.group.target) in
    (l.place + 4 * length l.offset-iterator < 2 ^ 64)
    × TakenUpTo g.T.Takes.takes l.fn.taker l.taker (left l.place l.offset-iterator) (left (l.fn.start + 8) l.fn.group.offsets)
