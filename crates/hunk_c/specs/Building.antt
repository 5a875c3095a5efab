-- What a call answers that builds a file.
use Rattle.std.specs.Prelude.{◌≡◌, ℕ, List, Result, Ok, Err}
use Rattle.hunk_words.specs.Reasons.{number_of}
use Rattle.hunk_parts.specs.Builds.{Builds}
use Rattle.hunk_parts.specs.declared.part_row.PartRow.{PartRow}
use Rattle.hunk_parts.specs.declared.row_fault.BuiltSize.{BuiltSize}
use Rattle.hunk_parts.specs.declared.row_fault.NotBuilt.{NotBuilt}
use Rattle.hunk_parts.specs.declared.row_fault.NotBuilt.TheVariants.{NoRoom, Refused}
use Rattle.hunk_parts.specs.declared.row_fault.RowFault.{RowFault}
use Rattle.hunk_parts.specs.declared.row_fault.RowRefusal.{RowRefusal}
use Rattle.hunk_parts.specs.declared.row_fault.RowRefusal.TheVariants as why
use Rattle.hunk_c.specs.declared.answer.Answer.{Answer}
use Rattle.hunk_c.specs.Answers.{done, no_room, strange_number}

abbrev pub refusal_number : RowRefusal → ℕ
refusal_number why.Strange = strange_number
refusal_number (why.Refused reason) = number_of reason

-- the answer for the first row that is refused
abbrev pub refused_row : RowFault → Answer
refused_row f = record { number = refusal_number f.refusal; hunk = 0; place = f.place; count = f.row }

abbrev pub built_answer : Result BuiltSize NotBuilt → Answer
built_answer (Ok size) = done size.hunks size.bytes size.bytes
built_answer (Err (NoRoom size)) = no_room size.hunks size.bytes size.bytes
built_answer (Err (Refused f)) = refused_row f

-- The text begins with the file that the rows spell, or all of it is as it was, and the answer tells which.
pub record Answers (bytes : List ℕ) (rows : List PartRow) (old new : List ℕ) (answer : Answer) : Type 0 where
  pub result : Result BuiltSize NotBuilt
  pub builds : Builds bytes rows old new result
  pub is : answer ≡ built_answer result
