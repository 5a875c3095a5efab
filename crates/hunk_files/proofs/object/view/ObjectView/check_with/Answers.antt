use Rattle.std.proofs.Common.{List, length, ap, arith}
use Rattle.std.proofs.lemmas.List.{length-map}
use Rattle.hunk_files.specs.{Findings.FindingValue, PlacedFindings.placed_findings}
use Rattle.hunk_files.proofs.findings.PlacedFindingLaws.{findings_placed}
use Rattle.hunk_files.proofs.object.view.ObjectView.check_with.Goals as goal

pub returns-clause-few : goal.returns-clause-few
returns-clause-few g c =
    omega (
      arith,
      c.check_in_place.ensures.few,
      ap (λ (fs : List FindingValue). length fs) (findings_placed c.args.self.now),
      length-map {B = FindingValue} (placed_findings c.args.self.now) (λ f. f.value),
    )
