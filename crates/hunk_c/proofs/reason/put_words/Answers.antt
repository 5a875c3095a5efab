use Rattle.std.proofs.Common.{◌≡◌, ◌++◌, ℕ, List, length, drop, ap, refl, subst}
use Rattle.hunk_c.specs.{Names.{PutsText, HasText, HasNoText}, declared.answer.Answer.Answer}
use Rattle.hunk_c.proofs.reason.put_words.Goals as goal

-- the words by another name
as_words : (words same old new : List ℕ) (answer : Answer) → same ≡ words → PutsText same old new answer → PutsText words old new answer
as_words words same old new answer e puts = subst (λ (ws : List ℕ). PutsText ws old new answer) e puts

pub returns-then-words-text : goal.returns-then-words-text
returns-then-words-text c = as_words _ _ _ _ _ c.as_bytes-words.ensures.value (HasNoText c.if-words-text.true refl c.no_room.ensures)

pub returns : goal.returns
returns c =
    let words = c.as_bytes-words in
    as_words _ _ _ _ _ words.ensures.value
    (HasText c.if-words-text.false
    (ap (λ (xs : List ℕ). xs ++ drop (length words.result.now) c.args.text.now) c.copy_from_slice.ensures.after) c.done.ensures)
