use Rattle.std.proofs.Common.{◌≡◌, ◌+◌, length}
use Rattle.hunk_grammar.specs.declared.position.Position.TheVariants.{FirstLong}
use Rattle.hunk_wide.specs.declared.position.FilePosition.TheVariants.{Load}
use Rattle.hunk_wide.specs.Places.{place_from}
use Rattle.hunk_wide.specs.declared.spot.Spot.TheVariants.{Long}
use Rattle.hunk_wide.proofs.place.place_in.Given as goal

abbrev pub invariant-units : goal.invariant-units
invariant-units l = record {
  same : place_from (Long (Load FirstLong)) l.fn.bytes l.fn.place ≡ l.at + place_from l.spot l.rest l.owed;
  whole : l.at + length l.rest ≡ length l.fn.bytes;
}

abbrev pub decreases-units : goal.decreases-units
decreases-units l = length l.rest
