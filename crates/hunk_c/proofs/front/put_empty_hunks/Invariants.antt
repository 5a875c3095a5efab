use Rattle.std.proofs.Common.{◌*◌}
use Rattle.hunk_words.specs.Longs.{bytes_of}
use Rattle.hunk_c.specs.Fronts.{empty_hunks}
use Rattle.hunk_c.proofs.front.put_empty_hunks.Given as goal

abbrev pub invariant-hunks : goal.invariant-hunks
invariant-hunks g l = g.T.TakesBytes.takes l.fn.taker (bytes_of (empty_hunks (16 * l.counter))) l.taker
