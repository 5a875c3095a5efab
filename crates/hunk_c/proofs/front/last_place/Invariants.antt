use Rattle.std.proofs.Common.{◌≡◌, ◌≤◌, ◌-◌, take}
use Rattle.hunk_words.specs.Longs.{longs}
use Rattle.hunk_files.specs.Machines.{object_at}
use Rattle.hunk_c.proofs.LastObjectPlaces.{LastPlace}
use Rattle.hunk_c.proofs.front.last_place.Given as goal

abbrev pub invariant-longwords : goal.invariant-longwords
invariant-longwords l = (l.at ≤ l.end) × (l.position ≡ object_at (take l.at (longs l.bytes))) × LastPlace (longs l.bytes) l.at l.last

abbrev pub decreases-longwords : goal.decreases-longwords
decreases-longwords l = l.end - l.at
