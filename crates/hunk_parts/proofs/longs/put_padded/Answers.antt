use Rattle.std.proofs.Common.{ℕ, List, subst, arith}
use Rattle.hunk_parts.proofs.LongBytes.{padded_begun, padded_whole}
use Rattle.hunk_parts.proofs.longs.put_padded.Goals as goal

pub returns-then-begun-gt0 : goal.returns-then-begun-gt0
returns-then-begun-gt0 g c =
    subst (λ (xs : List ℕ). g.T.TakesBytes.takes c.args.taker.now xs c.take-then-begun-gt0.new.self) (padded_begun c.args.bytes.now (λ i. omega (arith, c.type_inv.bytes i)) (omega (arith, c.if-begun-gt0.true)))
    (g.met.T.TakesBytes.more c.args.taker.now c.take.new.self c.take-then-begun-gt0.new.self c.args.bytes.now _ c.take.ensures c.take-then-begun-gt0.ensures)

pub returns-else-begun-gt0 : goal.returns-else-begun-gt0
returns-else-begun-gt0 g c =
    subst (λ (xs : List ℕ). g.T.TakesBytes.takes c.args.taker.now xs c.take.new.self) (padded_whole c.args.bytes.now (λ i. omega (arith, c.type_inv.bytes i)) (omega (arith, c.if-begun-gt0.false))) c.take.ensures
