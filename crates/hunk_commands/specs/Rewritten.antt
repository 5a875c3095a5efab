-- What `rewrite` writes.
use Rattle.std.specs.Prelude.{◌≡◌, ◌⊎◌, ◌+◌, ℕ, Bool, List, length, if◌then◌else◌}
use Rattle.hunk_words.specs.Longs.{bytes_of}
use Rattle.hunk_files.specs.Fault.{BeginsWithLoadFile}
use Rattle.hunk_files.specs.LoadText.{text}
use Rattle.hunk_files.specs.ObjectFile.{object_text}
use Rattle.hunk_files.specs.Strip.{strip_file, strip_object}
use Rattle.hunk_files.specs.HunkFile.{AreObjectFile, stripped}
use Rattle.hunk_files.specs.declared.hunk_file.HunkFile.{HunkFile}
use Rattle.hunk_commands.specs.declared.rewriting.Rewritten.{Rewritten}

abbrev pub stripped_where : Bool → HunkFile → HunkFile
stripped_where strip file = if strip then stripped file else file

-- what `rewrite` tells: how many of the bytes are the file, and how many follow it
abbrev pub TellsSizes : Rewritten → ℕ → List ℕ → Type 0
TellsSizes done rest bytes = (done.rest ≡ rest) × (done.read + rest ≡ length bytes)

-- The output is the text of the file that the bytes are, or begin with, stripped where that is asked for.
abbrev pub IsRewritten : Bool → Rewritten → List ℕ → List ℕ → Type 0
IsRewritten strip done bytes output =
    ((file : BeginsWithLoadFile bytes) × TellsSizes done (length file.rest) bytes
    × (output ≡ bytes_of (text (if strip then strip_file file.value else file.value))))
    ⊎ ((file : AreObjectFile bytes) × TellsSizes done 0 bytes
    × (output ≡ bytes_of (object_text (if strip then strip_object file.value else file.value))))
