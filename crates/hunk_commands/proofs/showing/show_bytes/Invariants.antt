use Rattle.hunk_commands.proofs.showing.show_bytes.Given as goal

abbrev pub ghost-new : goal.ghost-new
ghost-new g a = a.out.now
