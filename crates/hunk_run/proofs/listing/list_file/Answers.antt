use Rattle.std.proofs.Common.{Option, sym, subst}
use Rattle.std.specs.Prelude.{IsErrAnd}
use Rattle.hunk_run.specs.Orders.{SaysInput}
use Rattle.hunk_run.specs.Stores.{bytes_of_input}
use Rattle.hunk_run.specs.Wide.{IsUnread}
use Rattle.hunk_run.specs.declared.spelled.Spelled.{Spelled}
use Rattle.hunk_run.proofs.Stopping.{said_of_input}
use Rattle.hunk_run.proofs.listing.list_file.Goals as goal

pub returns-clause-spelled : goal.returns-clause-spelled
returns-clause-spelled g c =
    let known = bytes_of_input (g.S.Store.holdings c.args.store.now) (g.S.Store.opened c.args.store.now) (g.S.Store.made c.args.store.now) c.args.file.now in
    subst (λ (said : Option Spelled). SaysInput c.args.form.hex c.args.form.wide 67108864 known c.args.file.now (IsErrAnd c.list_input-answer.result.0 IsUnread) said) (sym c.said_of.ensures)
    (said_of_input 67108864 known c.args.form.hex c.args.form.wide c.args.file.now c.in-Ok.name c.list_input-answer.result.0 c.list_input-answer.result.2 c.in-Ok.ensures
    c.list_input-answer.ensures.spelled)
