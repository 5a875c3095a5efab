use Rattle.std.proofs.Common.{◌+◌, ◌*◌, ℕ, length, subst, ◌∙◌, arith}
use Rattle.hunk_blocks.specs.{Parts.ext_text, Values.ExtEntry, Views.entry_of}
use Rattle.hunk_files.specs.PlacedFindings.{entries_findings_at, entry_findings_at}
use Rattle.hunk_files.proofs.{findings.FindingSteps.taken_on, findings.OffsetsWithin.{first_is, offsets_within}}
use Rattle.hunk_files.proofs.findings.PlacedFindingLaws.{item_first}
use Rattle.hunk_files.proofs.object.check.check_entries.Goals as goal

pub check_entry-requires : goal.check_entry-requires
check_entry-requires g c =
    let entry = entry_of c.in-Some.entry in
    let steps = c.in-Some.ensures.steps in
    omega (arith, c.place.ensures, steps.1, offsets_within entry (first_is _ _ entry steps.0 c.checking.invariant.0).0)

pub checking-preserved : goal.checking-preserved
checking-preserved g c =
    let found = entry_findings_at c.args.spot in
    let left = entries_findings_at c.args.spot in
    let old = c.checking.entries in
    let new = c.next.new.self in
    let entry = entry_of c.in-Some.entry in
    let steps = c.in-Some.ensures.steps in
    let end = old.place + 4 * length (ext_text entry) in (
      (first_is _ _ entry steps.0 c.checking.invariant.0).1,
      taken_on g.T.Takes.takes g.met.T.Takes.more _ _ _ (found end entry) (left new.place new.value) (left old.place old.value)
          (left c.args.entries.place c.args.entries.value)
          (item_first entry_of (λ (place : ℕ) (e : ExtEntry). found (place + 4 * length (ext_text e)) e) ext_text old new c.in-Some.entry steps) c.checking.invariant.1
          (subst (λ (n : ℕ). g.T.Takes.takes c.checking.taker (found n entry) c.check_entry.new.taker) (c.place.ensures ∙ steps.1) c.check_entry.ensures),
    )
