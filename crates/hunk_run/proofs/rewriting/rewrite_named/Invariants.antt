use Rattle.hunk_run.proofs.rewriting.rewrite_named.Given as goal

abbrev pub ghosts-rewrite_to : goal.ghosts-rewrite_to
ghosts-rewrite_to g a = record { holdings = g.S.Store.holdings a.store; made = g.S.Store.made a.store; name = a.output.now; failed = g.S.Store.failed a.store }
