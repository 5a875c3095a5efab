use Rattle.hunk_words.proofs.PrintLaws.{put_held}
use Rattle.hunk_words.proofs.printer.send_held.Goals as goal

pub returns-clause-sends : goal.returns-clause-sends
returns-clause-sends g c = λ first text sends.
    put_held _ first _ c.put_bytes-held.new.self _ text _ (rw (← c.held.view_is) at sends) c.put_bytes-held.ensures
