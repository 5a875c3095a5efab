use Rattle.std.proofs.Common.{◌+◌, refl, arith}
use Rattle.hunk_lint.proofs.Zeros.{byte_from}
use Rattle.hunk_lint.proofs.known.long_at.Goals as goal

pub returns : goal.returns
returns c size =
    let at = c.args.offset in
    let byte = byte_from c.args.content.now size at in
    omega (
      arith,
      byte 0 at (omega arith) (omega arith),
      byte 1 (at + 1) (omega arith) refl,
      byte 2 (at + 2) (omega arith) refl,
      byte 3 (at + 3) (omega arith) refl,
      c.byte_at.ensures,
      c.byte_at-2.ensures,
      c.byte_at-3.ensures,
      c.byte_at-4.ensures,
      c.from_be_bytes.ensures,
    )
