use Rattle.hunk_c.proofs.reason.hunk_reason.Goals as goal

pub returns : goal.returns
returns c = (c.name_of_number.result.now, c.name_of_number.ensures, c.put_words.ensures)
