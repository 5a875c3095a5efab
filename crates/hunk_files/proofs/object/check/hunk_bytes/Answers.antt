use Rattle.std.proofs.Common.{List, ap, ◌∙◌}
use Rattle.hunk_blocks.specs.{Placed.Placed, Values.{BlockValue, content_bytes}}
use Rattle.hunk_files.proofs.findings.FindingSteps.{content_found}
use Rattle.hunk_files.proofs.object.check.hunk_bytes.Goals as goal

pub returns-in-Some-content_bytes : goal.returns-in-Some-content_bytes
returns-in-Some-content_bytes c =
    content_found c.args.blocks.value c.finding.block-iterator.value c.next.new.self.value c.in-Some.block.value c.content_bytes.result
    (ap (λ (p : Placed (List BlockValue)). p.value) c.in-Some.ensures.steps.0) (c.content_bytes.ensures ∙ ap content_bytes c.body.ensures.value) c.finding.invariant.2
    c.in-Some-content_bytes.bytes c.in-Some-content_bytes.is
