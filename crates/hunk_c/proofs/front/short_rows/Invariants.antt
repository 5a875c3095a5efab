use Rattle.hunk_words.specs.Longs.{longs}
use Rattle.hunk_c.specs.FrontPlaces.{AreShort}
use Rattle.hunk_c.proofs.front.short_rows.Given as goal

abbrev pub invariant-rows : goal.invariant-rows
invariant-rows l = AreShort (longs l.bytes) l.from l.count
