use Rattle.hunk_files.proofs.strip.StripLaws.{object_kept}
use Rattle.hunk_files.proofs.laws.strip_findings.Goals as goal

pub returns-clause-valid : goal.returns-clause-valid
returns-clause-valid c = object_kept
