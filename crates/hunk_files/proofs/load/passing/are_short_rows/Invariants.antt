use Rattle.std.proofs.Common.{ℕ, ◌<◌, ◌≤◌, ◌^◌, slice_index}
use Rattle.hunk_words.specs.Longs.{longs}
use Rattle.hunk_files.proofs.load.passing.are_short_rows.Given as goal

abbrev pub invariant-rows : goal.invariant-rows
invariant-rows l = record {
  most : (i : ℕ) → l.from ≤ i → i < l.i → slice_index (longs l.bytes) i ≤ l.largest;
  bound : l.largest < 2 ^ 32;
}
