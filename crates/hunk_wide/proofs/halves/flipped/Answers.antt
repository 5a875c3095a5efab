use Rattle.std.proofs.Common.{sym}
use Rattle.hunk_wide.proofs.ShortWords.{flipped_even, flipped_odd}
use Rattle.hunk_wide.proofs.halves.flipped.Goals as goal

pub returns-then-count-eq0 : goal.returns-then-count-eq0
returns-then-count-eq0 c = sym (flipped_even c.args.is_odd c.args.count c.if-count-eq0.true)

pub returns-else-count-eq0 : goal.returns-else-count-eq0
returns-else-count-eq0 c = sym (flipped_odd c.args.is_odd c.args.count c.if-count-eq0.false)
