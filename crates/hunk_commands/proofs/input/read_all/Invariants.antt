use Rattle.std.proofs.Common.{◌≡◌, ◌≤◌, ◌-◌, length}
use Rattle.std.specs.Io.KnownBytes.{Consumes}
use Rattle.hunk_commands.proofs.input.read_all.Given as goal

abbrev pub invariant-reading : goal.invariant-reading
invariant-reading g l =
    (l.count ≡ length (g.T.Taker.took l.taker)) × (l.count ≤ l.most)
    × Consumes (g.S.Source.supply l.fn.source).left (g.S.Source.supply l.source).left (g.T.Taker.took l.taker)
    × ((g.S.Source.supply l.source).failed ≡ (g.S.Source.supply l.fn.source).failed)

abbrev pub decreases-reading : goal.decreases-reading
decreases-reading g l = l.most - l.count
