-- Load files in other spellings.
use Rattle.std.specs.Prelude.{◌≡◌, ℕ, ◌<◌, ◌≤◌, List, ◌++◌, length, drop}
use Rattle.hunk_wide.specs.Plain.{plain}
use Rattle.hunk_wide.specs.Spellings.{ends_of, short_blocks_of}
use Rattle.hunk_c.specs.declared.answer.Answer.{Answer}
use Rattle.hunk_c.specs.declared.plain.SpellingRow.{SpellingRow}
use Rattle.hunk_c.specs.Answers.{no_room, done}

-- What a plain spelling comes to: the text begins with it, and what lies after it is as it was; or all is as it was, for want of room.
pub data Plains (bytes old new : List ℕ) (answer : Answer) : Type 0 where
  IsWritten : length (plain bytes) ≤ length old → new ≡ plain bytes ++ drop (length (plain bytes)) old
      → answer ≡ done 0 (length bytes) (length (plain bytes)) → Plains bytes old new answer
  HasNoRoom : length old < length (plain bytes) → new ≡ old
      → answer ≡ no_room 0 (length bytes) (length (plain bytes)) → Plains bytes old new answer

-- how an input spells its file
abbrev pub spelling : List ℕ → SpellingRow
spelling bytes = record { bytes = length (plain bytes); short_blocks = short_blocks_of bytes; ends = ends_of bytes; reserved = 0 }
