use Rattle.std.proofs.Common.{◌≡◌, ◌≤◌, ◌++◌, length, take}
use Rattle.hunk_wide.specs.{Held.left_of, Plain.plain_from}
use Rattle.hunk_wide.proofs.writing.fill_rest.Given as goal

abbrev pub invariant-units : goal.invariant-units
invariant-units l = record {
  inside : l.at ≤ length l.out;
  same : take l.at l.out ++ left_of l.held l.rest ≡ plain_from l.fn.spot l.fn.bytes;
}

abbrev pub decreases-units : goal.decreases-units
decreases-units l = length l.rest
