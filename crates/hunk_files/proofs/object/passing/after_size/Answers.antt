use Rattle.std.proofs.Common.{arith}
use Rattle.hunk_words.specs.Longs.{longs}
use Rattle.hunk_words.proofs.LongLaws.{length-longs}
use Rattle.hunk_files.proofs.object_walk.PassedUnits.{size_ends}
use Rattle.hunk_files.proofs.object.passing.after_size.Goals as goal

pub returns : goal.returns
returns c = size_ends (longs c.args.bytes.now) c.args.at (omega (arith, c.if-at-bytes.false, length-longs c.args.bytes.now))
