use Rattle.std.proofs.Common.{◌-◌, length}
use Rattle.hunk_words.specs.Longs.{longs}
use Rattle.hunk_files.specs.ObjectPassing.{LeadsTo}
use Rattle.hunk_files.proofs.object.passing.after_units.Given as goal

abbrev pub invariant-passing : goal.invariant-passing
invariant-passing l = LeadsTo (longs l.bytes) l.fn.from l.place

abbrev pub decreases-passing : goal.decreases-passing
decreases-passing l = length (longs l.bytes) - l.place.at
