use Rattle.std.proofs.Common.{sym, ◌∙◌, arith}
use Rattle.hunk_wide.proofs.Few.{few_bytes, last_there, none_there}
use Rattle.hunk_wide.proofs.expander.ready_end.Goals as goal

pub returns-then-begun-gt0 : goal.returns-then-begun-gt0
returns-then-begun-gt0 c = c.some.ensures ∙ sym (few_bytes c.args.spot c.args.begun c.requires (λ q e none. omega arith))

pub returns-then-is_last : goal.returns-then-is_last
returns-then-is_last c = c.four.ensures ∙ last_there c.args.spot c.args.begun (omega arith) (sym c.is_last.ensures ∙ c.if-is_last.true)

pub returns-else-is_last : goal.returns-else-is_last
returns-else-is_last c = c.none.ensures ∙ none_there c.args.spot c.args.begun (omega arith) (sym c.is_last.ensures ∙ c.if-is_last.false)
