use Rattle.std.proofs.Common.{sym, ◌∙◌, arith}
use Rattle.hunk_wide.proofs.Cutting.{given_front}
use Rattle.hunk_wide.proofs.ready.Ready.give.Goals as goal

pub returns-clause-gives : goal.returns-clause-gives
returns-clause-gives c =
    sym c.self.view_is
    ∙ given_front c.self.inside.bytes c.args.buf.now c.copy_from_slice.new.self c.self.inside.from c.self.inside.to c.min-count.result
    (omega arith) (omega arith) c.copy_from_slice.ensures.after c.copy_from_slice.ensures.len
