use Rattle.hunk_files.proofs.parts.FileParts.{one_part}
use Rattle.hunk_files.proofs.laws.one_part.Goals as goal

pub returns : goal.returns
returns c = one_part
