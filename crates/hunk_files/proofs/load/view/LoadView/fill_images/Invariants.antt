use Rattle.std.proofs.Common.{◌≡◌, drop}
use Rattle.hunk_files.specs.InPlace.{BeginsWithHunks, hunks_in}
use Rattle.hunk_files.proofs.image.FillingLaws.{ImagesLeft}
use Rattle.hunk_files.proofs.load.view.LoadView.fill_images.Given as goal

abbrev pub invariant-filling : goal.invariant-filling
invariant-filling g l = record {
  stays : g.B.Bases.bases l.bases ≡ g.B.Bases.bases l.fn.bases;
  begins : BeginsWithHunks l.size-iterator (drop l.at l.bytes);
  left : ImagesLeft (g.B.Bases.bases l.fn.bases) l.self (hunks_in l.size-iterator (drop l.at l.bytes)) l.start l.memory;
}
