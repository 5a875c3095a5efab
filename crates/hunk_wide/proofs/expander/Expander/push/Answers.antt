use Rattle.std.proofs.Common.{◌+◌, ◌≤◌, sym, subst}
use Rattle.hunk_wide.specs.Held.{Held, wanted}
use Rattle.hunk_wide.proofs.Few.{push_wanted}
use Rattle.hunk_wide.proofs.expander.Expander.push.Goals as goal

pub returns-clause-wanted : goal.returns-clause-wanted
returns-clause-wanted c =
    subst (λ (h : Held). wanted c.args.self.now ≤ wanted h + 1) (sym c.self-2.view_is)
    (push_wanted c.args.self.now c.self.inside.ready c.self.inside.spot c.self.inside.begun (wanted c.after.result) c.self.view_is c.requires c.self.invariant.0 c.after.ensures.wanted)
