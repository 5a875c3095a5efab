use Rattle.hunk_files.proofs.walk.Scan.{one_role}
use Rattle.hunk_files.proofs.laws.load_prefix.Goals as goal

pub returns-clause-one_role : goal.returns-clause-one_role
returns-clause-one_role c = one_role
