use Rattle.hunk_lint.proofs.NoneTold.{apart_without_overlap}
use Rattle.hunk_lint.proofs.laws.apart_without_overlap.Goals as goal

pub returns : goal.returns
returns c = apart_without_overlap
