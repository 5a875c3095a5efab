use Rattle.hunk_commands.proofs.rewriting.put_file.Given as goal

abbrev pub ghost-new : goal.ghost-new
ghost-new g a = a.out.now
