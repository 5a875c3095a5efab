use Rattle.hunk_c.proofs.reason.hunk_reason_text.Goals as goal

pub returns : goal.returns
returns c = (c.meaning_of_number.result.now, c.meaning_of_number.ensures, c.put_words.ensures)
