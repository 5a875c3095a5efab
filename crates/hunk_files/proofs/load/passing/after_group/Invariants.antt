use Rattle.std.proofs.Common.{ℕ, ◌+◌, ◌<◌, ◌≤◌, slice_index}
use Rattle.hunk_words.specs.Longs.{longs}
use Rattle.hunk_files.proofs.load.passing.after_group.Given as goal

abbrev pub invariant-offsets : goal.invariant-offsets
invariant-offsets l = (i : ℕ) → l.at + 2 ≤ i → i < l.i → slice_index (longs l.bytes) i ≤ l.largest
