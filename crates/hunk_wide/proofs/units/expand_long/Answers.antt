use Rattle.hunk_wide.proofs.Stretches.{long_there}
use Rattle.hunk_wide.proofs.Leads.{long_front_leads}
use Rattle.hunk_wide.proofs.units.expand_long.Goals as goal

pub returns-clause-gives : goal.returns-clause-gives
returns-clause-gives c =
    long_there c.args.position c.of.result c.from_be_bytes-word.result c.behind_long.result c.args.piece.now _ c.if-piece-lt4.false
    c.from_be_bytes-word.ensures c.of.ensures c.put_long.ensures.bytes c.behind_long.ensures

pub returns-clause-leads : goal.returns-clause-leads
returns-clause-leads c = long_front_leads c.args.position c.from_be_bytes-word.result c.behind_long.result c.args.piece.now c.if-piece-lt4.false c.from_be_bytes-word.ensures c.behind_long.ensures
