use Rattle.std.proofs.Common.{◌≡◌, length, false}
use Rattle.hunk_words.specs.{Carriers.saturated, Puts.PutsBefore}
use Rattle.hunk_words.proofs.long_writer.LongWriter.put_bytes.Given as goal

abbrev pub invariant-loop-rest : goal.invariant-loop-rest
invariant-loop-rest g l =
    (l.self-inside.stopped ≡ false)
    × ((g.W.Sink.outlet l.self-inside.sink).failed ≡ (g.W.Sink.outlet l.fn.self.sink).failed)
    × (l.self-inside.written ≡ saturated (length l.self-inside.history.bytes))
    × PutsBefore (g.W.Sink.outlet l.fn.self.sink).taken (g.W.Sink.outlet l.self-inside.sink).taken l.fn.self.written (length l.self-inside.history.bytes) l.bytes l.rest

abbrev pub decreases-loop-rest : goal.decreases-loop-rest
decreases-loop-rest g l = length l.rest
