use Rattle.std.proofs.Common.{◌≡◌, take}
use Rattle.hunk_files.specs.Image.{declared_bytes}
use Rattle.hunk_scatter.specs.Rows.{entries_of}
use Rattle.hunk_scatter.proofs.image.start_of.Given as goal

abbrev pub invariant-loop-row : goal.invariant-loop-row
invariant-loop-row l = l.bytes ≡ declared_bytes (entries_of (take l.row-index l.rows))
