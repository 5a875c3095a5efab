use Rattle.std.proofs.Common.{◌≡◌, [], sym, ◌∙◌, arith}
use Rattle.hunk_wide.proofs.Supplies.{keeps_read, no_length, read_passes}
use Rattle.hunk_wide.proofs.Files.{err_stays, passing_stay, ready_stay, stays_first, two_stay}
use Rattle.hunk_wide.proofs.plain.Plain.pull_unit.Goals as goal

pub returns-then-is_empty-clause-bytes : goal.returns-then-is_empty-clause-bytes
returns-then-is_empty-clause-bytes g c =
    let none : c.filling.self.held.ready ≡ [] = no_length c.filling.self.held.ready (sym c.is_empty.ensures ∙ c.if-is_empty.true) in
    let all = c.want-want.ensures.passes c.if-want-eq0.true none in
    keeps_read _ _ _ c.pull.result c.pull.new.buf c.filling.invariant.left
    (read_passes c.filling.self.held _ _ c.pull.result c.pull.new.buf none all.0 all.1 c.pull.ensures.bytes)

pub returns-in_err-refill-clause-file : goal.returns-in_err-refill-clause-file
returns-in_err-refill-clause-file g c =
    err_stays _ c.refill.new.self.held _ _ c.from_residual.result c.from_residual.ensures.0
    (two_stay _ c.filling.self.held c.refill.new.self.held _ _ _ 0 c.filling.invariant.file c.refill.ensures.file)

pub returns-then-is_empty-clause-file : goal.returns-then-is_empty-clause-file
returns-then-is_empty-clause-file g c =
    let none : c.filling.self.held.ready ≡ [] = no_length c.filling.self.held.ready (sym c.is_empty.ensures ∙ c.if-is_empty.true) in
    let all = c.want-want.ensures.passes c.if-want-eq0.true none in
    stays_first _ c.filling.self.held _ _ _ c.pull.result c.filling.invariant.file
    (passing_stay c.filling.self.held _ _ c.pull.result c.pull.new.buf none all.0 all.1 c.pull.ensures.inside c.pull.ensures.bytes)

pub returns-clause-file : goal.returns-clause-file
returns-clause-file g c =
    two_stay _ c.filling.self.held c.give.new.self _ _ _ c.give.result c.filling.invariant.file
    (ready_stay c.filling.self.held c.give.new.self _ c.give.result c.give.new.buf c.give.ensures.spot c.give.ensures.begun c.give.ensures.gives (omega (arith, c.give.ensures.number, c.give.auto.buf)))
