use Rattle.hunk_wide.proofs.FromWide.{from_wide}
use Rattle.hunk_wide.proofs.laws.from_wide_spelling.Goals as goal

pub returns : goal.returns
returns c = from_wide
