use Rattle.hunk_files.proofs.findings.FindingSteps.{ContentLeft}
use Rattle.hunk_files.proofs.object.check.hunk_bytes.Given as goal

abbrev pub invariant-finding : goal.invariant-finding
invariant-finding l =
    (goal.iterator-finding).can_next l.block-iterator
    × (goal.iterator-finding).is_finite l.block-iterator
    × ContentLeft l.fn.blocks.value l.block-iterator.value
