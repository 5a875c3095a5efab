-- Stripped files in the caller's text.
use Rattle.std.specs.Prelude.{ℕ, List}
use Rattle.hunk_files.specs.HunkFile.{file_bytes, stripped}
use Rattle.hunk_files.specs.declared.hunk_file.HunkFile.{HunkFile}
use Rattle.hunk_c.specs.declared.answer.Answer.{Answer}
use Rattle.hunk_c.specs.Rows.{ListsExactly}

-- the bytes of the file without its NAME, SYMBOL, DEBUG and ADVISORY blocks
abbrev pub stripped_bytes : HunkFile → List ℕ
stripped_bytes file = file_bytes (stripped file)

-- What a strip comes to: the text begins with them, or is as it was.
abbrev pub Strips : List ℕ → List ℕ → List ℕ → Answer → Type 0
Strips = ListsExactly stripped_bytes
