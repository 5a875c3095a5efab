use Rattle.std.proofs.Common.{◌≡◌, List, length}
use Rattle.hunk_files.specs.LoadFile.{TableEntry}
use Rattle.hunk_scatter.specs.HeaderBytes.{BeginsWithHeader}
use Rattle.hunk_c.proofs.FoundPlaces.{FoundSoFar}
use Rattle.hunk_c.proofs.load_at.find_places.Given as goal

abbrev pub invariant-placing : goal.invariant-placing
invariant-placing l =
    (t : List TableEntry) (h : BeginsWithHeader l.bytes t) → length t ≡ l.hunks → FoundSoFar h l.start l.room l.bases l.hunk l.place.longword l.place.base
