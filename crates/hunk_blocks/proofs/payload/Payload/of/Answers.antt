use Rattle.std.proofs.Common.{arith}
use Rattle.hunk_blocks.proofs.BytesOfLongs.{bytes_of-longs}
use Rattle.hunk_blocks.proofs.payload.Payload.of.Goals as goal

pub invariant_of-result : goal.invariant_of-result
invariant_of-result c = bytes_of-longs c.args.bytes.now (λ i. omega (arith, c.type_inv.bytes i)) c.requires
