use Rattle.std.proofs.Common.{◌≡◌, ◌+◌, length}
use Rattle.hunk_files.proofs.cuts.UnitCounts.{units_left}
use Rattle.hunk_files.proofs.object.view.ObjectView.units.Given as goal

abbrev pub invariant-counting : goal.invariant-counting
invariant-counting l =
    (goal.iterator-counting).can_next l.item-iterator
    × (goal.iterator-counting).is_finite l.item-iterator
    × (l.units + units_left l.item-iterator.value ≡ length l.fn.self)
