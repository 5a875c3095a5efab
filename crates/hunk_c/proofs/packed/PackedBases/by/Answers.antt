use Rattle.std.proofs.Common.{arith}
use Rattle.hunk_c.proofs.packed.PackedBases.by.Goals as goal

pub invariant_of-result : goal.invariant_of-result
invariant_of-result c =
    let p = c.requires.packed in
    (p, c.requires.short, λ i less at. absurd (omega (arith, less, at, p.hunks_are, p.header.is_table.most)))
