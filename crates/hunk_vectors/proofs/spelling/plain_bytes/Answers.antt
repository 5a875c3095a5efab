use Rattle.std.proofs.Common.{refl}
use Rattle.hex.proofs.OnLiterals.{hex_on_literals}
use Rattle.hunk_vectors.proofs.spelling.plain_bytes.Goals as goal

-- Each text of the table is hexadecimal text, as computing it shows.
pub listed_bytes-requires-clause-texts : goal.listed_bytes-requires-clause-texts
unfolding hex_on_literals
listed_bytes-requires-clause-texts c = refl

pub returns : goal.returns
returns c = c.listed_bytes.ensures
