use Rattle.std.proofs.Common.{◌≡◌, ◌*◌, take}
use Rattle.hunk_wide.specs.Halves.{widened}
use Rattle.hunk_wide.proofs.units.widen.Given as goal

abbrev pub invariant-words : goal.invariant-words
invariant-words l = record {
  done : take (4 * l.i) l.longs ≡ widened (take (2 * l.i) l.halves);
}
