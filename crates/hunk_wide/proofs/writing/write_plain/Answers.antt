use Rattle.std.proofs.Common.{arith}
use Rattle.hunk_wide.proofs.Counted.{at_most_twice}
use Rattle.hunk_wide.proofs.writing.write_plain.Goals.{else-bytes-lt-FEW+else-out-bytes, then-bytes-lt-FEW+else-needed-out+else-is_plain}
use Rattle.hunk_wide.proofs.writing.write_plain.Goals as goal

pub fill-requires : goal.fill-requires
fill-requires c =
    elim c.if-bytes-lt-FEW.branch [
      | then-bytes-lt-FEW+else-needed-out+else-is_plain w ↦ omega (arith, w.if-needed-out.false, w.spelling_of-spelling.ensures.len)
      | else-bytes-lt-FEW+else-out-bytes w ↦ omega (arith, w.if-out-bytes.false, at_most_twice c.args.bytes.now)
    ]
