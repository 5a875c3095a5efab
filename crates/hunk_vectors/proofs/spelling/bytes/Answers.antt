use Rattle.std.proofs.Common.{refl}
use Rattle.hex.proofs.OnLiterals.{hex_on_literals}
use Rattle.hunk_vectors.proofs.spelling.bytes.Goals as goal

-- Each text of the table is hexadecimal text, as computing it shows.
pub row_bytes-requires-clause-texts : goal.row_bytes-requires-clause-texts
unfolding hex_on_literals
row_bytes-requires-clause-texts c = refl

-- The texts of the table are those of `LOAD_TEXTS`, in the same order.
pub returns : goal.returns
returns c = c.row_bytes.ensures
