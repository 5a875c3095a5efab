use Rattle.std.proofs.Common.{◌≡◌, ◌-◌, ◌++◌, ℕ, List, length, take}
use Rattle.hunk_scatter.specs.Streaming.{IsWithin, IsFedAfter}
use Rattle.hunk_scatter.proofs.WholeLongs.{Leaves}
use Rattle.hunk_scatter.proofs.stream.feed_all.Given as goal

-- A loader stands where it does after the bytes so far.
abbrev pub invariant-parts : goal.invariant-parts
invariant-parts l = record {
  leaves : Leaves l.piece l.rest;
  uncounted : l.at.fed ≡ l.fn.at.fed;
  within : IsWithin l.rows (length l.store) l.at;
  takes : (fed : List ℕ) → IsFedAfter l.rows l.fn.store l.fn.at fed → IsFedAfter l.rows l.store l.at (fed ++ take (length l.piece - length l.rest) l.piece);
}

abbrev pub decreases-parts : goal.decreases-parts
decreases-parts l = length l.rest
