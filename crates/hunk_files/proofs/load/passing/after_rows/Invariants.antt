use Rattle.std.proofs.Common.{◌≤◌, ◌-◌}
use Rattle.hunk_words.specs.Longs.{longs}
use Rattle.hunk_files.specs.Passing.{AreRows}
use Rattle.hunk_files.proofs.load.passing.after_rows.Given as goal

abbrev pub invariant-rows : goal.invariant-rows
invariant-rows l = record {
  rows : AreRows (longs l.bytes) l.from l.count l.at;
  few : l.count ≤ l.most;
}

abbrev pub decreases-rows : goal.decreases-rows
decreases-rows l = l.most - l.count
