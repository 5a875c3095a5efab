use Rattle.std.proofs.Common.{◌≡◌, ◌+◌, ◌<◌, ◌^◌, ◌++◌}
use Rattle.hunk_files.specs.declared.hunk_file.HunkFile.TheVariants as files
use Rattle.hunk_files.proofs.findings.FindingSteps.{TakenUpTo}
use Rattle.hunk_c.specs.Units.{items_units, open_hunks, open_rows, units_in}
use Rattle.hunk_c.proofs.UnitRows.{AreAhead, hunks_ahead}
use Rattle.hunk_c.proofs.units.list_units.Given as goal

abbrev pub invariant-listing : goal.invariant-listing
invariant-listing g l =
    AreAhead l.item-iterator.value
    × (l.hunks + hunks_ahead l.item-iterator.value ≡ open_hunks l.current)
    × (open_hunks l.current < 2 ^ 64)
    × TakenUpTo g.T.Takes.takes l.fn.taker l.taker (open_rows l.current ++ items_units l.item-iterator.place l.item-iterator.value) (units_in (files.Object l.fn.file))
