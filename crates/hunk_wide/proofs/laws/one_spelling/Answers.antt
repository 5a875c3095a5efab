use Rattle.hunk_wide.proofs.{Spelled.one_spelling}
use Rattle.hunk_wide.proofs.laws.one_spelling.Goals as goal

pub returns : goal.returns
returns c = one_spelling
