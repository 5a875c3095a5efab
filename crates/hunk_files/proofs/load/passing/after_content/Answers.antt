use Rattle.std.proofs.Common.{ℕ, ◌+◌, ap, arith}
use Rattle.hunk_words.specs.Bits.{size_longs}
use Rattle.hunk_words.proofs.LongLaws.{length-longs}
use Rattle.hunk_files.proofs.load.passing.after_content.Goals as goal

pub returns : goal.returns
returns c =
    let is = ap size_longs c.word_at-size.ensures in
    record {
      fits = omega (arith, is, c.if-size-declared.false);
      ends = ap (λ (n : ℕ). c.args.at + 1 + n) is;
      whole = omega (arith, c.if-at-whole.false, c.if-size-whole.false, length-longs c.args.bytes.now);
    }
