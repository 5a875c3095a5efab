use Rattle.hunk_examples.proofs.program.strip.Given as goal

abbrev pub ghost-new : goal.ghost-new
ghost-new a = a.out.now
