use Rattle.hunk_files.proofs.walk.Scan.{completed}
use Rattle.hunk_files.proofs.laws.complete.Goals as goal

pub returns : goal.returns
returns c = completed
