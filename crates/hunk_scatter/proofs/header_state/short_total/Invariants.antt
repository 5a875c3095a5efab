use Rattle.std.proofs.Common.{◌≡◌, ◌-◌, ◌*◌, ◌≤◌, false}
use Rattle.hunk_words.specs.{Bits.has_both_bits, Longs.longs}
use Rattle.hunk_scatter.specs.HeaderLoaderFields.{HasShortEntries}
use Rattle.hunk_scatter.proofs.header_state.short_total.Given as goal

abbrev pub invariant-entries : goal.invariant-entries
invariant-entries l = record {
  short : has_both_bits l.largest ≡ false → HasShortEntries (longs l.bytes) (l.i - 5) l.total;
  bound : l.total ≤ 4294967292 * (l.i - 5);
}
