use Rattle.std.proofs.Common.{◌++◌, ◌∙◌}
use Rattle.hunk_wide.specs.Plain.{plain_from}
use Rattle.hunk_wide.proofs.Few.{half_whole}
use Rattle.hunk_wide.specs.InFile.{spot_after}
use Rattle.hunk_wide.proofs.Leads.{half_whole_leads}
use Rattle.hunk_wide.proofs.expander.after_half.Goals as goal

pub returns-clause-left : goal.returns-clause-left
returns-clause-left c =
    λ more. (λ i. c.four.ensures i ++ plain_from (c.behind_half.ensures i) more)
    ∙ half_whole c.args.after c.args.part c.args.is_odd c.args.begun c.args.byte more c.requires c.if-begun-eq0.false

pub returns-clause-spot : goal.returns-clause-spot
returns-clause-spot c =
    λ more. (λ i. spot_after (c.behind_half.ensures i) more)
    ∙ half_whole_leads c.args.after c.args.part c.args.is_odd c.args.begun c.args.byte more c.requires c.if-begun-eq0.false
