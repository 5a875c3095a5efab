use Rattle.std.proofs.Common.{rules, ◌∙◌}
use Rattle.hunk_command_line.proofs.Numbers.{budget_read}
use Rattle.hunk_command_line.proofs.line.numbers.budget_of.Goals as goal

pub returns : goal.returns
returns c = c.ok.ensures.value ∙ budget_read c.args.text.now c.parse.result (search rules) c.parse.ensures.value.0
