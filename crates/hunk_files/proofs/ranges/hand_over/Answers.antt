use Rattle.std.proofs.Common.{◌≡◌, ◌-◌, ℕ, List, [], take, drop, slice_range, ap, subst, sym, arith}
use Rattle.hunk_files.proofs.ranges.hand_over.Goals as goal

pub returns-else-from-end : goal.returns-else-from-end
returns-else-from-end g c =
    let bytes = c.args.bytes.now in
    let none : c.args.end - c.args.from ≡ 0 = omega (arith, c.if-from-end.false) in
    let empty : slice_range bytes c.args.from c.args.end ≡ [] = ap (λ (n : ℕ). take n (drop c.args.from bytes)) none in
    subst (λ (xs : List ℕ). g.T.TakesBytes.takes c.args.taker.now xs c.args.taker.now) (sym empty) (g.met.T.TakesBytes.none c.args.taker.now)
