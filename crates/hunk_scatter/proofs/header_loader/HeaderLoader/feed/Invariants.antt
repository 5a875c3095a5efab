use Rattle.std.proofs.Common.{length, ◌-◌, ◌≡◌, ◌≤◌, ◌++◌, take, None}
use Rattle.hunk_scatter.specs.HeaderBytes.{IsHeader}
use Rattle.hunk_scatter.proofs.header_loader.HeaderLoader.feed.Given as goal

abbrev pub invariant-loop-taken : goal.invariant-loop-taken
invariant-loop-taken l = record {
  inside : l.taken ≤ length l.piece;
  fed_is : l.self.fed ≡ l.fn.self.fed ++ take l.taken l.piece;
  budget_is : l.self.budget ≡ l.fn.self.budget;
  reading : l.self.refused ≡ None;
  complete : IsHeader l.fn.self.fed → l.taken ≡ 0;
}

abbrev pub decreases-loop-taken : goal.decreases-loop-taken
decreases-loop-taken l = length l.piece - l.taken
