use Rattle.std.proofs.Common.{ℕ, ◌+◌, ap, arith}
use Rattle.hunk_words.proofs.LongLaws.{length-longs}
use Rattle.hunk_files.proofs.load.passing.after_counted.Goals as goal

pub returns : goal.returns
returns c = record {
  ends = ap (λ (n : ℕ). c.args.at + 1 + n) c.word_at-count.ensures;
  whole = omega (arith, c.if-at-whole.false, c.if-count-whole.false, length-longs c.args.bytes.now);
}
