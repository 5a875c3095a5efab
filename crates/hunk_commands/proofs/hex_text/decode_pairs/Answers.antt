use Rattle.std.proofs.Common.{arith}
use Rattle.hunk_commands.proofs.HexPieces.{nothing_decoded, pair_joined}
use Rattle.hunk_commands.proofs.hex_text.decode_pairs.Goals as goal

pub pairs-init : goal.pairs-init
pairs-init c = (omega arith, nothing_decoded)

pub pairs-preserved : goal.pairs-preserved
pairs-preserved c =
    (omega arith, pair_joined c.args.text.now c.pairs.room c.pairs.count _ (omega arith) (omega arith) c.pairs.invariant.1 c.in-Some.ensures)
