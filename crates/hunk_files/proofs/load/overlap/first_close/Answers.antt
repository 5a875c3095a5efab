use Rattle.std.proofs.Common.{arith}
use Rattle.hunk_files.proofs.image.Rising.{none_apart}
use Rattle.hunk_files.proofs.load.overlap.first_close.Goals as goal

pub returns : goal.returns
returns c = none_apart c.args.rising.now c.loop-i.i c.requires (omega arith) c.loop-i.invariant
