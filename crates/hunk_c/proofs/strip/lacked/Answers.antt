use Rattle.std.proofs.Common.{arith}
use Rattle.hunk_files.specs.FileView.{file_of}
use Rattle.hunk_c.proofs.OneFile.{stripped_fits}
use Rattle.hunk_c.proofs.strip.lacked.Goals as goal

pub returns-then-size-room-clause-fits : goal.returns-then-size-room-clause-fits
returns-then-size-room-clause-fits c = omega (arith, stripped_fits (file_of c.args.file.now), c.requires, c.if-size-room.true)

pub count_stripped-count-requires : goal.count_stripped-count-requires
count_stripped-count-requires c = omega (arith, stripped_fits (file_of c.args.file.now), c.requires)
