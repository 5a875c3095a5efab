use Rattle.std.proofs.Common.{rules}
use Rattle.hunk_run.specs.Stores.{bytes_of_input}
use Rattle.hunk_run.proofs.Failing.{answers_input}
use Rattle.hunk_run.proofs.listing.list_once.Goals as goal

-- standard input

pub returns-in_default-clause-answers : goal.returns-in_default-clause-answers
returns-in_default-clause-answers g c =
    let known = bytes_of_input (g.S.Store.holdings c.args.store.now) (g.S.Store.opened c.args.store.now) (g.S.Store.made c.args.store.now) c.args.file.now in
    answers_input g.W.Sink.outlet c.args.form.hex c.args.form.wide c.args.listing _ _ 67108864 c.args.out.now c.list_asked-answer.new.out c.list_asked-answer.result.0 c.list_asked-answer.result.1
    c.list_asked-answer.ensures known (g.S.Input.Read.remaining c.input.result) (search rules) (search rules) c.close_input.result (search rules)

-- the file of this name

pub returns-clause-answers : goal.returns-clause-answers
returns-clause-answers g c =
    let known = bytes_of_input (g.S.Store.holdings c.args.store.now) (g.S.Store.opened c.args.store.now) (g.S.Store.made c.args.store.now) c.args.file.now in
    answers_input g.W.Sink.outlet c.args.form.hex c.args.form.wide c.args.listing _ _ 67108864 c.args.out.now c.list_asked-answer-2.new.out c.list_asked-answer-2.result.0 c.list_asked-answer-2.result.1
    c.list_asked-answer-2.ensures known (g.S.File.Read.remaining c.in-Ok.file) (search rules) (search rules) c.close.result (search rules)
