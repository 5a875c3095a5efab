use Rattle.std.proofs.Common.{◌≡◌, ◌+◌, ◌-◌, ◌*◌, length}
use Rattle.hunk_files.specs.{Findings.outside, PlacedFindings.offsets_findings_at}
use Rattle.hunk_files.proofs.findings.FindingSteps.{TakenUpTo}
use Rattle.hunk_files.proofs.object.check.check_entry.Given as goal

abbrev pub invariant-checking : goal.invariant-checking
invariant-checking g l =
    let left = offsets_findings_at (outside l.spot l.width) in
    (l.place + 4 * length l.offset-iterator ≡ l.fn.end)
    × TakenUpTo g.T.Takes.takes l.fn.taker l.taker (left l.place l.offset-iterator) (left (l.fn.end - 4 * length l.fn.entry.offsets) l.fn.entry.offsets)
