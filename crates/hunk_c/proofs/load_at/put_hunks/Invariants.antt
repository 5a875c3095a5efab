use Rattle.std.proofs.Common.{◌≡◌}
use Rattle.hunk_files.specs.LoadText.{table}
use Rattle.hunk_c.proofs.PlacedHunks.{PutSoFar}
use Rattle.hunk_c.proofs.load_at.put_hunks.Given as goal

abbrev pub invariant-putting : goal.invariant-putting
invariant-putting l = record {
  same : l.bases ≡ l.fn.bases;
  left : table l.hunks.value ≡ l.size-iterator;
  put : PutSoFar l.fn.start l.fn.bases l.fn.file l.hunks.value l.number l.fn.memory l.memory;
}
