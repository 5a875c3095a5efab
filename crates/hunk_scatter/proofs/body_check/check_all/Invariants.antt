use Rattle.std.proofs.Common.{◌≡◌, ◌-◌, ◌++◌, ℕ, List, length, take}
use Rattle.hunk_scatter.specs.Checking.{IsCheckedAfter}
use Rattle.hunk_scatter.proofs.WholeLongs.{Leaves}
use Rattle.hunk_scatter.proofs.body_check.check_all.Given as goal

-- A loader stands where the check does after the bytes so far.
abbrev pub invariant-parts : goal.invariant-parts
invariant-parts l = record {
  leaves : Leaves l.piece l.rest;
  uncounted : l.at.fed ≡ l.fn.at.fed;
  takes : (fed : List ℕ) → IsCheckedAfter l.rows l.fn.at fed → IsCheckedAfter l.rows l.at (fed ++ take (length l.piece - length l.rest) l.piece);
}

abbrev pub decreases-parts : goal.decreases-parts
decreases-parts l = length l.rest
