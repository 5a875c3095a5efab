use Rattle.hunk_command_line.proofs.line.command.relocate.Goals as goal

pub returns : goal.returns
returns c =
    c.with_argument.ensures _ _ (c.with_argument-command-2.ensures _ _ (c.with_argument-command.ensures _ _
    c.reading_command-command.ensures (c.mandatory.ensures _ c.option.ensures)) c.option-2.ensures) c.file_positional.ensures
