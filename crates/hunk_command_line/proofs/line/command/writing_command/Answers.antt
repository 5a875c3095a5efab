use Rattle.hunk_command_line.proofs.line.command.writing_command.Goals as goal

pub returns : goal.returns
returns c =
    c.with_argument.ensures _ _ (c.with_argument-command.ensures _ _ c.command-command.ensures c.flag.ensures)
    c.wide_flag.ensures
