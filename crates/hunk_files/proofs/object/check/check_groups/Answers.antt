use Rattle.std.proofs.Common.{ℕ, subst}
use Rattle.hunk_blocks.specs.{Parts.group_text, Views.group_of}
use Rattle.hunk_files.specs.PlacedFindings.{group_findings_at, groups_findings_at}
use Rattle.hunk_files.proofs.{findings.FindingSteps.taken_on, findings.PlacedFindingLaws.item_first}
use Rattle.hunk_files.proofs.object.check.check_groups.Goals as goal

pub checking-preserved : goal.checking-preserved
checking-preserved g c =
    let found = group_findings_at c.args.spot c.args.width in
    let left = groups_findings_at c.args.spot c.args.width in
    let old = c.checking.groups in
    let new = c.next.new.self in
    let group = group_of c.in-Some.group in (
      c.place-after.ensures,
      taken_on g.T.Takes.takes g.met.T.Takes.more _ _ _ (found old.place group) (left new.place new.value) (left old.place old.value)
          (left c.args.groups.place c.args.groups.value) (item_first group_of found group_text old new c.in-Some.group c.in-Some.ensures.steps) c.checking.invariant.1
          (subst (λ (n : ℕ). g.T.Takes.takes c.checking.taker (found n group) c.check_group.new.taker) c.checking.invariant.0 c.check_group.ensures),
    )
