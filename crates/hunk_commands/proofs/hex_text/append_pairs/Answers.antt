use Rattle.hunk_commands.proofs.HexPieces.{decoded_plain}
use Rattle.hunk_commands.proofs.hex_text.append_pairs.Goals as goal

pub returns-clause-digits : goal.returns-clause-digits
returns-clause-digits c = decoded_plain _ _ c.decode_pairs-count.ensures.decoded
