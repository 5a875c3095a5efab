-- The names of the numbers that answers have, and what these mean.
use Rattle.std.specs.Prelude.{◌≡◌, ℕ, ◌<◌, ◌≤◌, List, [], ◌++◌, length, drop, codes, ◌⊎◌}
use Rattle.hunk_words.specs.Meanings.{meaning_of}
use Rattle.hunk_words.specs.Reasons.{number_of, name_of}
use Rattle.hunk_words.specs.declared.reason.Reason.{Reason}
use Rattle.hunk_c.specs.declared.answer.Answer.{Answer}
use Rattle.hunk_c.specs.Answers.{done, no_room, no_room_number, strange_number}

-- The name of a number: that of its reason, of NoRoom, of Strange, or none.
pub data IsNameOf (number : ℕ) (name : List ℕ) : Type 0 where
  OfReason : (reason : Reason) → number_of reason ≡ number → name ≡ name_of reason → IsNameOf number name
  OfNoRoom : number ≡ no_room_number → name ≡ codes "NoRoom" → IsNameOf number name
  OfStrange : number ≡ strange_number → name ≡ codes "Strange" → IsNameOf number name
  OfNone : (number ≡ 0) ⊎ (strange_number < number) → name ≡ [] → IsNameOf number name

-- What a number means: what its reason does, NoRoom, Strange, or nothing.
pub data IsMeaningOf (number : ℕ) (words : List ℕ) : Type 0 where
  MeansReason : (reason : Reason) → number_of reason ≡ number → words ≡ meaning_of reason → IsMeaningOf number words
  MeansNoRoom : number ≡ no_room_number → words ≡ codes "the array of the caller has too few elements" → IsMeaningOf number words
  MeansStrange : number ≡ strange_number → words ≡ codes "the numbers are none of a loader or of parts, or do not fit" → IsMeaningOf number words
  MeansNothing : (number ≡ 0) ⊎ (strange_number < number) → words ≡ [] → IsMeaningOf number words

-- The text begins with the words, and what lies after them is as it was; or it is too short, and as it was.
pub data PutsText (words old new : List ℕ) (answer : Answer) : Type 0 where
  HasText : length words ≤ length old → new ≡ words ++ drop (length words) old
      → answer ≡ done 0 0 (length words) → PutsText words old new answer
  HasNoText : length old < length words → new ≡ old
      → answer ≡ no_room 0 0 (length words) → PutsText words old new answer

-- The name of the number is put.
abbrev pub Names : ℕ → List ℕ → List ℕ → Answer → Type 0
Names number old new answer = (name : List ℕ) × IsNameOf number name × PutsText name old new answer

-- What the number means is put.
abbrev pub Means : ℕ → List ℕ → List ℕ → Answer → Type 0
Means number old new answer = (words : List ℕ) × IsMeaningOf number words × PutsText words old new answer
