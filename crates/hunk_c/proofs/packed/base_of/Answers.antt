use Rattle.std.proofs.Common.{arith}
use Rattle.hunk_c.proofs.Packing.{base_found, base_low}
use Rattle.hunk_c.proofs.packed.base_of.Goals as goal

pub overflow_cast-result : goal.overflow_cast-result
overflow_cast-result c =
    let p = c.requires.packed in
    omega (arith, base_low _ _ _ _ p.1 _ _ _ (c.place_of.ensures p.0 p.1) c.requires.inside)

pub returns : goal.returns
returns c start p = base_found _ _ _ _ p _ _ _ (c.place_of.ensures start p) c.requires.inside
