use Rattle.hunk_parts.proofs.laws.built_again.Goals as goal
use Rattle.hunk_parts.proofs.spelled.BuiltFiles.{built_again}

pub returns : goal.returns
returns c = record {
  size = λ bytes file old new built is room builds. (built_again bytes file old new built is room builds).0;
  text = λ bytes file old new built is room builds. (built_again bytes file old new built is room builds).1;
}
