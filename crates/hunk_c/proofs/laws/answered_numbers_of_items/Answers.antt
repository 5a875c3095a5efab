use Rattle.hunk_words.specs.Carriers.{saturated}
use Rattle.hunk_c.proofs.AnsweredNumbers.{list_told}
use Rattle.hunk_c.proofs.laws.answered_numbers_of_items.Goals as goal

pub returns : goal.returns
returns g c = λ rows. list_told rows saturated
