use Rattle.std.proofs.Common.{ap, arith}
use Rattle.hunk_grammar.specs.Positions.{is_done}
use Rattle.hunk_scatter.proofs.{LoadCheckLaws.{body_goes_on, body_refused, body_whole}, StreamLaws.open_unless_done}
use Rattle.hunk_scatter.proofs.load_check.BodyCheck.feed.Goals as goal

pub returns-in-Err : goal.returns-in-Err
returns-in-Err c = λ fed h few.
    let takes = rw (c.as_slice.ensures.value) at c.in-Err.ensures.takes in
    body_refused c.args.self.rows.items c.check_all.new.at fed c.args.piece.now c.in-Err.fault _ (takes fed h.checked) c.in-Err.ensures.own_reasons c.from-number.ensures few

pub returns-in-Done : goal.returns-in-Done
returns-in-Done c = λ fed h few.
    let takes = rw (c.as_slice.ensures.value) at c.in-Ok.ensures.takes in
    let k = takes fed h.checked in
    body_whole c.args.self.rows.items c.check_all.new.at fed c.args.piece.now c.in-Ok.taken k (ap is_done c.in-Done.is) c.in-Ok.ensures.inside _ _ _
    (omega (arith, c.len.ensures)) h.total_is (omega arith)

pub returns-in_default : goal.returns-in_default
returns-in_default c = λ fed h.
    let takes = rw (c.as_slice.ensures.value) at c.in-Ok.ensures.takes in
    let going = open_unless_done c.check_all.new.at.state.position c.in_default.not-Done in
    let k = body_goes_on c.args.self.rows.items c.check_all.new.at fed c.args.piece.now c.in-Ok.taken (takes fed h.checked) going c.in-Ok.ensures.all in
    (record { total_is = h.total_is; checked = k }, going)
