use Rattle.std.proofs.Common.{refl, arith}
use Rattle.hunk_commands.proofs.HexValues.{pair_decoded}
use Rattle.hunk_commands.proofs.hex_text.byte_of.Goals as goal

pub returns : goal.returns
returns c = pair_decoded c.args.high c.args.low _ _ c.ranges.high.fits c.ranges.low.fits refl refl (omega arith) (omega arith)
