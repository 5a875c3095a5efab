use Rattle.std.proofs.Common.{Option, Some, false, sym, subst}
use Rattle.std.specs.Prelude.{IsErrAnd}
use Rattle.hunk_run.specs.Orders.{SaysInput}
use Rattle.hunk_run.specs.Stores.{bytes_of_input}
use Rattle.hunk_run.specs.Wide.{IsUnread}
use Rattle.hunk_run.specs.declared.spelled.Spelled.{Spelled}
use Rattle.hunk_run.proofs.Stopping.{said_of_input}
use Rattle.hunk_run.proofs.rewriting.rewrite_file.Goals as goal

pub returns-clause-spelled : goal.returns-clause-spelled
returns-clause-spelled g c =
    let known = bytes_of_input (g.S.Store.holdings c.args.store) (g.S.Store.opened c.args.store) (g.S.Store.made c.args.store) (Some c.args.input.now) in
    subst (λ (said : Option Spelled). SaysInput false c.args.way.wide 67108864 known (Some c.args.input.now) (IsErrAnd c.rewrite_input-store.result.1 IsUnread) said) (sym c.said_of.ensures)
    (said_of_input 67108864 known false c.args.way.wide (Some c.args.input.now) c.in-Ok.name c.rewrite_input-store.result.1 c.rewrite_input-store.result.3 c.in-Ok.ensures
    c.rewrite_input-store.ensures.spelled)
