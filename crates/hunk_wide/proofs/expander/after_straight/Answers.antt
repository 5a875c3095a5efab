use Rattle.std.proofs.Common.{[], ◌∷◌, ◌++◌, sym, ◌∙◌, arith}
use Rattle.hunk_wide.specs.Plain.{plain_from}
use Rattle.hunk_wide.proofs.Straight.{straight_gives}
use Rattle.hunk_wide.specs.InFile.{spot_after}
use Rattle.hunk_wide.proofs.Leads.{straight_leads}
use Rattle.hunk_wide.proofs.expander.after_straight.Goals as goal

pub returns-clause-left : goal.returns-clause-left
returns-clause-left c =
    λ more. (λ i. c.one.ensures i ++ plain_from (c.behind_straight.ensures i) more)
    ∙ sym (straight_gives c.args.count c.args.next (c.args.byte ∷ []) (omega arith) more)

pub returns-clause-spot : goal.returns-clause-spot
returns-clause-spot c =
    λ more. (λ i. spot_after (c.behind_straight.ensures i) more)
    ∙ sym (straight_leads c.args.count c.args.next (c.args.byte ∷ []) (omega arith) more)
