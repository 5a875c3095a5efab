use Rattle.std.proofs.Common.{arith}
use Rattle.hunk_wide.proofs.Stretches.{after_front}
use Rattle.hunk_wide.proofs.units.put_long.Goals as goal

pub returns-in-Same-clause-rest : goal.returns-in-Same-clause-rest
returns-in-Same-clause-rest c = after_front 4 c.copy_from_slice.new.self c.args.buf.now c.copy_from_slice.auto.self (omega (arith, c.requires))
