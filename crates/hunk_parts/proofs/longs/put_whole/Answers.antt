use Rattle.std.proofs.Common.{ℕ, List, subst, arith}
use Rattle.hunk_parts.proofs.LongBytes.{whole}
use Rattle.hunk_parts.proofs.longs.put_whole.Goals as goal

pub returns : goal.returns
returns g c = subst (λ (xs : List ℕ). g.T.TakesBytes.takes c.args.taker.now xs c.take.new.self) (whole c.args.bytes.now (λ i. omega (arith, c.type_inv.bytes i)) c.requires) c.take.ensures
