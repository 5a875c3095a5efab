use Rattle.std.proofs.Common.{[], ◌++◌, refl}
use Rattle.hunk_words.proofs.PrintLaws.{holds_more, put_held}
use Rattle.hunk_words.proofs.printer.send_on.Goals as goal

pub returns-then-not-append : goal.returns-then-not-append
returns-then-not-append g c = λ first text sends.
    let bytes = c.args.bytes.now in
    let sent = rw c.send_held.ensures.empty at (c.send_held.ensures.sends first text sends) in
    let both = holds_more g.W.Sink.outlet first c.send_held.new.out text [] bytes (text ++ bytes) bytes sent refl refl in
    rw (c.append.ensures.same c.if-not-append.true, c.send_held.ensures.empty)
    (put_held _ first _ c.put_bytes-rest.new.self _ (text ++ bytes) bytes both c.put_bytes-rest.ensures)

pub returns-else-not-append : goal.returns-else-not-append
returns-else-not-append g c = λ first text sends.
    let bytes = c.args.bytes.now in
    let sent = rw c.send_held.ensures.empty at (c.send_held.ensures.sends first text sends) in
    holds_more g.W.Sink.outlet first c.send_held.new.out text [] bytes (text ++ bytes) _ sent refl
    (rw c.send_held.ensures.empty at (c.append.ensures.appends c.if-not-append.false))
