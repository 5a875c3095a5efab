use Rattle.std.proofs.Common.{◌≡◌, ◌+◌, length, Option, Some, None}
use Rattle.hunk_blocks.specs.Placed.{Placed}
use Rattle.hunk_files.specs.{Findings.HunkContext, ObjectFile.UnitValue}
use Rattle.hunk_files.specs.PlacedFindings.{placed_findings}
use Rattle.hunk_files.proofs.{findings.FindingSteps.TakenUpTo, findings.PlacedFindingLaws.items_findings_at, cuts.UnitCounts.units_left}
use Rattle.hunk_files.proofs.object.view.ObjectView.check_in_place.Given as goal

-- where offsets stand, once the hunks of this unit are counted
abbrev pub counted : HunkContext → Option (Placed UnitValue) → HunkContext
counted s None = s
counted s (Some u) = record { unit = s.unit; hunk = s.hunk; hunks = length u.value.hunks; bytes = s.bytes }

abbrev pub invariant-checking : goal.invariant-checking
invariant-checking g l =
    (goal.iterator-checking g).can_next l.item-iterator
    × (goal.iterator-checking g).is_finite l.item-iterator
    × (l.units + units_left l.item-iterator.value ≡ length l.fn.self)
    × TakenUpTo g.T.Takes.takes l.fn.taker l.taker (items_findings_at (counted l.spot l.uncounted) l.item-iterator.place l.item-iterator.value) (placed_findings l.fn.self)
