use Rattle.std.proofs.Common.{arith}
use Rattle.hunk_words.proofs.LongLaws.{length-longs}
use Rattle.hunk_files.proofs.object.passing.after_name.Goals as goal

pub word_at-requires : goal.word_at-requires
word_at-requires c = omega (arith, c.in_ok-after.ensures.ends, c.in_ok-after.ensures.whole, length-longs c.args.bytes.now)
