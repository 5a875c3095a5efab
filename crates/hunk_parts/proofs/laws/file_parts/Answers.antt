use Rattle.hunk_parts.proofs.SeenParts.{file_parts}
use Rattle.hunk_parts.proofs.laws.file_parts.Goals as goal

pub returns : goal.returns
returns c = file_parts
