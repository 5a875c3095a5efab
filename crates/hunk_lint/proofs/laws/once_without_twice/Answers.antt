use Rattle.hunk_lint.proofs.NoneTold.{once_without_twice}
use Rattle.hunk_lint.proofs.laws.once_without_twice.Goals as goal

pub returns : goal.returns
returns c = once_without_twice
