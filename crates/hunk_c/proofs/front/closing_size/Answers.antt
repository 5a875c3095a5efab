use Rattle.std.proofs.Common.{arith}
use Rattle.hunk_c.proofs.FrontText.{closing_bytes}
use Rattle.hunk_c.proofs.front.closing_size.Goals as goal

pub returns-clause-value : goal.returns-clause-value
returns-clause-value c = omega (arith, c.hunk_end_size.ensures, c.from.ensures, closing_bytes c.args.front.open_hunk c.args.front.left)
