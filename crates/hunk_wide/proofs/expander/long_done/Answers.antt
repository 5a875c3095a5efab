use Rattle.std.proofs.Common.{◌++◌, sym, ap, ◌∙◌, arith}
use Rattle.std.specs.Int.{to_be_bytes, w32}
use Rattle.hunk_wide.specs.declared.spot.Given.{Given}
use Rattle.hunk_wide.specs.Longwords.{behind_long, out_long}
use Rattle.hunk_wide.specs.Plain.{plain_from}
use Rattle.hunk_wide.proofs.Few.{long_one}
use Rattle.hunk_wide.specs.InFile.{spot_after}
use Rattle.hunk_wide.proofs.Leads.{long_one_leads}
use Rattle.hunk_wide.proofs.expander.long_done.Goals as goal

pub returns-clause-left : goal.returns-clause-left
returns-clause-left c =
    λ more. (λ i. c.ready_long.ensures i ++ plain_from (c.behind_long.ensures i) more)
    ∙ ap (λ (g : Given). out_long g (to_be_bytes w32 c.args.word) c.args.word ++ plain_from (behind_long c.args.position c.args.word) more) c.of.ensures
    ∙ long_one c.args.position c.args.word more (omega arith)

pub returns-clause-spot : goal.returns-clause-spot
returns-clause-spot c =
    λ more. (λ i. spot_after (c.behind_long.ensures i) more)
    ∙ sym (long_one_leads c.args.position c.args.word (omega arith) more)
