-- What `show` prints.
use Rattle.std.specs.Prelude.{◌≡◌, ◌⊎◌, ℕ, List, length}
use Rattle.hunk_files.specs.Fault.{BeginsWithLoadFile}
use Rattle.hunk_listing.specs.FileLines.{load_listing, object_listing}
use Rattle.hunk_files.specs.declared.hunk_file.HunkFile.{HunkFile}
use Rattle.hunk_files.specs.declared.hunk_file.HunkFile.TheVariants as files
use Rattle.hunk_files.specs.HunkFile.{AreObjectFile}

-- the listing of a file
abbrev pub file_listing : HunkFile → List ℕ
file_listing (files.Load value rest) = load_listing value rest
file_listing (files.Object value) = object_listing value

-- the text is the listing of the file that the bytes are, or begin with
abbrev pub IsShown : List ℕ → List ℕ → Type 0
IsShown bytes text =
    ((file : BeginsWithLoadFile bytes) × (text ≡ load_listing file.value (length file.rest)))
    ⊎ ((file : AreObjectFile bytes) × (text ≡ object_listing file.value))
