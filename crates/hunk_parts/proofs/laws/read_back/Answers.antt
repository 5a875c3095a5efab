use Rattle.hunk_parts.proofs.laws.read_back.Goals as goal
use Rattle.hunk_parts.proofs.spelled.BuiltFiles.{read_back}

pub returns : goal.returns
returns c = read_back
