use Rattle.std.proofs.Common.{◌≡◌, ◌+◌, ◌<◌, ◌≤◌, ◌^◌, length}
use Rattle.hunk_wide.specs.Plain.{plain_from}
use Rattle.hunk_wide.specs.Spellings.{ends_from, short_blocks_from}
use Rattle.hunk_wide.proofs.spelling.spelling_from.Given as goal

abbrev pub invariant-units : goal.invariant-units
invariant-units l = record {
  len : l.len + length (plain_from l.spot l.rest) ≡ length (plain_from l.fn.spot l.fn.bytes);
  most : l.len + length (plain_from l.spot l.rest) < 2 ^ 64;
  short_blocks : l.short_blocks + short_blocks_from l.spot l.rest ≡ short_blocks_from l.fn.spot l.fn.bytes;
  ends : l.ends + ends_from l.spot l.rest ≡ ends_from l.fn.spot l.fn.bytes;
  short_few : l.short_blocks + length l.rest ≤ length l.fn.bytes;
  ends_few : l.ends + length l.rest ≤ length l.fn.bytes;
}

abbrev pub decreases-units : goal.decreases-units
decreases-units l = length l.rest
