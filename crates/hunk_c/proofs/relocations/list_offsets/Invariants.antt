use Rattle.std.proofs.Common.{◌+◌, ◌*◌, ◌<◌, ◌^◌, length}
use Rattle.hunk_files.proofs.findings.FindingSteps.{TakenUpTo}
use Rattle.hunk_c.specs.Relocations.{offset_rows}
use Rattle.hunk_c.proofs.relocations.list_offsets.Given as goal

abbrev pub invariant-listing : goal.invariant-listing
invariant-listing g l =
    (l.place + 4 * length l.offset-iterator < 2 ^ 64)
    × TakenUpTo g.T.Takes.takes l.fn.taker l.taker (offset_rows l.relocated l.target l.place l.offset-iterator) (offset_rows l.relocated l.target l.fn.start l.fn.offsets)
