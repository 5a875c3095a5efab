use Rattle.std.proofs.Common.{rules, ◌∙◌}
use Rattle.hunk_command_line.proofs.Numbers.{base_read}
use Rattle.hunk_command_line.proofs.line.numbers.base_of.Goals as goal

pub returns : goal.returns
returns c = c.ok.ensures.value ∙ base_read c.args.text.now c.from_str_radix.result (search rules) (search rules) c.from_str_radix.ensures.value
