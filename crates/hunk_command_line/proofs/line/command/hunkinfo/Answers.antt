use Rattle.hunk_command_line.proofs.line.command.hunkinfo.Goals as goal

pub returns : goal.returns
returns c =
    c.extended.ensures _ _ (c.extended-program-3.ensures _ _ (c.extended-program-2.ensures _ _ (c.extended-program.ensures _ _
    c.program.ensures c.plain_command-show.ensures) c.plain_command-validate.ensures) c.relocate.ensures) c.rewrite.ensures
