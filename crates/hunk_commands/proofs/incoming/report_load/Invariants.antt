use Rattle.hunk_commands.proofs.incoming.report_load.Given as goal

abbrev pub ghost-new : goal.ghost-new
ghost-new g a = a.out.now
