use Rattle.std.proofs.lemmas.Bool.{eqb-true}
use Rattle.hunk_c.proofs.ShortRows.{short_table, short_to_next}
use Rattle.hunk_c.proofs.packed.are_short.Goals as goal

pub returns-then-short : goal.returns-then-short
returns-then-short c = λ start p same. short_table _ _ start _ p c.args.number c.requires.inside (c.requires.short c.if-short.true)

pub returns-then-next-hunks : goal.returns-then-next-hunks
returns-then-next-hunks c = λ start p same. short_to_next _ _ start _ p c.args.number c.requires.inside c.if-next-hunks.true (eqb-true _ _ same)
