use Rattle.hunk_c.proofs.AnsweredNumbers.{meanings_short, names_short}
use Rattle.hunk_c.proofs.laws.longest_words.Goals as goal

pub returns : goal.returns
returns c = record { names = names_short; meanings = meanings_short }
