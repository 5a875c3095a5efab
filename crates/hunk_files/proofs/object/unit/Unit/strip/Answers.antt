use Rattle.std.proofs.Common.{List, sym, subst}
use Rattle.hunk_words.specs.Longs.{longs}
use Rattle.hunk_files.specs.ObjectFile.{ObjectHunk, IsUnit}
use Rattle.hunk_files.proofs.strip.StripLaws.{unit_kept}
use Rattle.hunk_files.proofs.object.unit.Unit.strip.Goals as goal

pub invariant_of-self : goal.invariant_of-self
invariant_of-self c =
    let P : List ObjectHunk → Type 0 = λ hs. IsUnit (record { name = longs c.self.inside.name; hunks = hs }) in
    subst P (sym c.strip_hunks.ensures) (unit_kept (record { name = longs c.self.inside.name; hunks = c.self.inside.hunks.items }) c.self.invariant)
