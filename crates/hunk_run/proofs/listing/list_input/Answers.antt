use Rattle.std.proofs.Common.{◌≡◌, false, rules, true}
use Rattle.hunk_run.proofs.Accepted.{answers_first, says_first}
use Rattle.hunk_run.proofs.listing.list_input.Goals as goal

pub returns-in-Some-clause-answers : goal.returns-in-Some-clause-answers
returns-in-Some-clause-answers g c =
    let plain : c.args.form.hex ≡ false = search rules in
    let flag : c.args.form.wide ≡ true = search rules in
    answers_first g.W.Sink.outlet c.args.listing _ 67108864 c.args.out.now c.list_first.new.out c.args.form.hex c.args.form.wide c.in-Some.answer c.in-Some.cause plain flag c.in-Some.ensures.lists

pub returns-in-Some-clause-spelled : goal.returns-in-Some-clause-spelled
returns-in-Some-clause-spelled g c =
    says_first g.W.Sink.outlet c.args.listing _ 67108864 c.args.out.now c.list_first.new.out c.args.form.hex c.args.form.wide c.in-Some.answer c.in-Some.cause c.in-Some.ensures.lists
