use Rattle.hunk_words.proofs.PrintLaws.{flushed}
use Rattle.hunk_words.proofs.printer.PagePrinter.flush.Goals as goal

pub returns-clause-puts : goal.returns-clause-puts
returns-clause-puts g c =
    flushed g.W.Sink.outlet _ c.args.self.now c.self.inside.out.now c.put_bytes-result.new.self c.put_bytes-result.result _ c.self.view_is
    (rw (← c.held.view_is) at c.self.invariant) c.put_bytes-result.ensures
