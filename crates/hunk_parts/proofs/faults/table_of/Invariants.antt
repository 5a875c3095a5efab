use Rattle.std.proofs.Common.{◌≡◌, ◌+◌, ◌-◌, ◌*◌, ◌≤◌, length, drop}
use Rattle.std.specs.List.{filter}
use Rattle.hunk_words.specs.Limits.{most_hunks}
use Rattle.hunk_parts.specs.PartFaults.{is_hunk_row, nth_hunk, table_bytes}
use Rattle.hunk_parts.proofs.faults.table_of.Given as goal

abbrev pub invariant-rows : goal.invariant-rows
invariant-rows l = record {
  most : l.hunks ≤ most_hunks;
  small : l.bytes ≤ 8 * l.hunks;
  hunks : l.hunks + length (filter is_hunk_row (drop l.i l.rows)) ≡ length (filter is_hunk_row l.rows);
  bytes : l.bytes + table_bytes (drop l.i l.rows) ≡ table_bytes l.rows;
  row : nth_hunk (most_hunks - l.hunks) l.i (drop l.i l.rows) ≡ nth_hunk most_hunks 0 l.rows;
}
