use Rattle.tests_words.proofs.tests.printing.pushes_of.Given as goal

abbrev pub ghost-new : goal.ghost-new
ghost-new a = a.out.now
