use Rattle.std.proofs.Common.{refl}
use Rattle.hunk_commands.proofs.HexPieces.{nothing_taken}
use Rattle.hunk_commands.proofs.hex_text.HexDecoder.new.Goals as goal

pub invariant_of-result : goal.invariant_of-result
invariant_of-result c = nothing_taken _ _ _ c.new-2.ensures c.new.ensures.items refl
