use Rattle.std.proofs.Common.{◌∙◌, sym}
use Rattle.hunk_run.proofs.Accepted.{lists_first}
use Rattle.hunk_run.proofs.listing_first.list_as_it_is.Goals as goal

pub returns-clause-lists : goal.returns-clause-lists
returns-clause-lists g c =
    let before = g.R.Source.supply c.args.source.now in
    lists_first g.W.Sink.outlet c.args.listing before.left before.failed _ 67108864 c.args.out.now c.list_bytes-answer.new.out c.list_bytes-answer.result
    (sym c.is_refused.ensures ∙ c.if-is_refused.false) c.list_bytes-answer.ensures.lists c.list_bytes-answer.ensures.of_file
