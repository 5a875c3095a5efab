use Rattle.std.proofs.Common.{◌≡◌, List, length}
use Rattle.hunk_files.specs.LoadFile.{TableEntry}
use Rattle.hunk_scatter.specs.HeaderBytes.{BeginsWithHeader}
use Rattle.hunk_c.proofs.Packing.{PackedSoFar}
use Rattle.hunk_c.proofs.packed.place_marks.Given as goal

abbrev pub invariant-placing : goal.invariant-placing
invariant-placing l =
    (t : List TableEntry) (h : BeginsWithHeader l.bytes t) → length t ≡ l.hunks → PackedSoFar h l.start l.marks l.hunk l.place.longword l.place.base
