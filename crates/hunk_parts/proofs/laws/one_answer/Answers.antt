use Rattle.std.proofs.Common.{arith}
use Rattle.hunk_parts.proofs.laws.one_answer.Goals as goal
use Rattle.hunk_parts.proofs.spelled.{RowsSpell.no_fault, SpelledFiles.some_file}

pub returns : goal.returns
returns c = (
  λ none. some_file c.args.bytes.now (λ k. omega (arith, c.type_inv.bytes k)) c.args.rows.now c.are_rows.ensures none,
  λ h. no_fault c.args.bytes.now c.args.rows.now h.0 h.1,
)
