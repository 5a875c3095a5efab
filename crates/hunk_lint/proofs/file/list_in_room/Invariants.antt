use Rattle.std.proofs.Common.{◌≡◌, length}
use Rattle.hunk_files.proofs.findings.FindingSteps.{TakenUpTo}
use Rattle.hunk_lint.specs.Warnings.{hunks_warnings, sizes_of, warnings}
use Rattle.hunk_lint.proofs.HunksLeft.{HunksLeft}
use Rattle.hunk_lint.proofs.file.list_in_room.Given as goal

abbrev pub invariant-listing : goal.invariant-listing
invariant-listing g l = record {
  sizes : l.sizes ≡ sizes_of l.file;
  hunks : HunksLeft l.file (length l.offsets) l.number l.size-iterator l.items.value;
  listed : TakenUpTo g.T.Takes.takes l.fn.taker l.taker (hunks_warnings (sizes_of l.file) l.number l.items.place hunks.left) (warnings l.file);
}
