use Rattle.hunk_command_line.proofs.line.command.rewrite.Goals as goal

pub returns : goal.returns
returns c =
    c.with_argument.ensures _ _ (c.with_argument-command.ensures _ _ c.writing_command-command.ensures
    (c.mandatory.ensures _ c.positional.ensures)) (c.mandatory-2.ensures _ c.positional-2.ensures)
