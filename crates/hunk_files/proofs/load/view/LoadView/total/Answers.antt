use Rattle.std.proofs.Common.{length, ap, arith}
use Rattle.hunk_files.proofs.load.view.LoadView.total.Goals as goal

pub overflow_add-sum : goal.overflow_add-sum
overflow_add-sum c =
    omega (arith, c.entries.invariant.1, c.bytes-sum.ensures, c.table-size-items.ensures.file.most, ap (λ es. length es) c.in-Some.ensures.steps)

pub returns-clause-bound : goal.returns-clause-bound
returns-clause-bound c = omega (arith, c.entries.invariant.1, c.table-size-items.ensures.file.most)
