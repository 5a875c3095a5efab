use Rattle.std.proofs.Common.{◌-◌, ◌*◌, ◌≤◌, take}
use Rattle.std.specs.List.{AllByRecursion}
use Rattle.hunk_words.specs.Longs.{longs}
use Rattle.hunk_grammar.specs.Positions.{EndsWithin}
use Rattle.hunk_scatter.proofs.body_check.count_inside.Given as goal

abbrev pub invariant-offsets : goal.invariant-offsets
invariant-offsets l = (l.count ≤ l.most) × AllByRecursion (EndsWithin (4 * l.declared)) (take l.count (longs l.offsets))

abbrev pub decreases-offsets : goal.decreases-offsets
decreases-offsets l = l.most - l.count
