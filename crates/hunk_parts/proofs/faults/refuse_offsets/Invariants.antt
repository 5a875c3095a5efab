use Rattle.std.proofs.Common.{◌≡◌, ◌+◌, ◌*◌, drop}
use Rattle.hunk_words.specs.Longs.{longs}
use Rattle.hunk_parts.specs.PartFaults.{refuse_offsets}
use Rattle.hunk_parts.proofs.faults.refuse_offsets.Given as goal

abbrev pub invariant-offsets : goal.invariant-offsets
invariant-offsets l = refuse_offsets l.declared (8 + 4 * l.i) (drop l.i (longs l.offsets)) ≡ refuse_offsets l.declared 8 (longs l.offsets)
