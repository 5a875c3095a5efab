use Rattle.std.proofs.Common.{◌≡◌, ℕ, ◌+◌, ◌≤◌, List, ◌++◌, take}
use Rattle.hunk_wide.specs.{Held.{left_of, owed, wanted}, InFile.spot_of}
use Rattle.hunk_wide.proofs.expander.Expander.take.Given as goal

abbrev pub invariant-bytes : goal.invariant-bytes
invariant-bytes l = record {
  left : (more : List ℕ) → left_of l.self more ≡ left_of l.initial.self (take l.byte-index l.piece ++ more);
  spot : (more : List ℕ) → spot_of l.self more ≡ spot_of l.initial.self (take l.byte-index l.piece ++ more);
  wanted : wanted l.initial.self ≤ wanted l.self + l.byte-index;
  fewer : owed l.self + l.byte-index ≤ owed l.initial.self;
}
