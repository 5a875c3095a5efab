use Rattle.hunk_files.specs.Passing.{nothing, passed_rows}
use Rattle.hunk_files.proofs.load.passing.pass_over.Goals as goal

pub returns-in-SizeWord : goal.returns-in-SizeWord
returns-in-SizeWord c =
    let row = c.after_rows-end in
    passed_rows c.in-SizeWord.hunks c.in-SizeWord.owed row.result.1 row.result.0 c.in-SizeWord.is row.ensures.few row.ensures.rows

pub returns-in_default : goal.returns-in_default
returns-in_default c = nothing

pub returns-in_default-2 : goal.returns-in_default-2
returns-in_default-2 c = nothing
