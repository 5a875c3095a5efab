use Rattle.hunk_run.proofs.rewriting.tell.Given as goal

abbrev pub ghost-new : goal.ghost-new
ghost-new g a = a.out.now
