use Rattle.std.proofs.Common.{subst, arith}
use Rattle.hunk_scatter.specs.Owing.{FileOwes}
use Rattle.hunk_scatter.proofs.StreamLaws.{still_owes}
use Rattle.hunk_scatter.proofs.stream.Standing.want.Goals as goal

pub returns : goal.returns
returns c rows store fed h =
    subst (FileOwes fed) (omega (arith, c.saturating_sub.ensures, c.from.ensures))
    (still_owes rows store c.args.self.now fed h c.least_longs-longs.result c.least_longs-longs.ensures.value c.least_longs-longs.ensures.positive)
