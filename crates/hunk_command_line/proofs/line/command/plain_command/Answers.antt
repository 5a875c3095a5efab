use Rattle.hunk_command_line.proofs.line.command.plain_command.Goals as goal

pub returns : goal.returns
returns c =
    c.with_argument.ensures _ _ c.reading_command-command.ensures c.file_positional.ensures
