use Rattle.std.proofs.Common.{◌+◌, ◌-◌, ◌*◌, ℕ, List, length, ap, arith}
use Rattle.hunk_files.specs.{Findings.outside, PlacedFindings.{offsets_findings_at, standing_at}}
use Rattle.hunk_files.proofs.findings.FindingSteps.{taken_on}
use Rattle.hunk_files.proofs.object.check.check_entry.Goals as goal

pub checking-preserved : goal.checking-preserved
checking-preserved g c =
    let found = outside c.args.spot c.reference_width-width.result in
    let left = offsets_findings_at found in
    let place = c.checking.place in
    let old = c.checking.offset-iterator in
    let new = c.next.new.self in
    let steps = c.in-Some.ensures.steps in (
      omega (arith, c.checking.invariant.0, ap (λ (os : List ℕ). length os) steps),
      taken_on g.T.Takes.takes g.met.T.Takes.more _ _ _ (standing_at place (found c.in-Some.offset)) (left (place + 4) new) (left place old)
          (left (c.args.end - 4 * length c.args.entry.now.offsets) c.args.entry.now.offsets) (ap (λ (os : List ℕ). left place os) steps) c.checking.invariant.1 c.check_offset.ensures,
    )
