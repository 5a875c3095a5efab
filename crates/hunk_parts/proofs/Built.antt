-- What is answered of rows is what building them comes to.
use Rattle.std.proofs.Common.{◌≡◌, ◌<◌, ◌≤◌, ◌*◌, ◌++◌, ℕ, List, None, Some, Result, Ok, Err, arith, ap, ap₂, drop, length, refl, sym, ◌∙◌}
use Rattle.hunk_words.specs.Longs.{IsBytes, bytes_of}
use Rattle.hunk_words.proofs.LongLaws.{length-bytes_of}
use Rattle.hunk_files.specs.HunkFile.{file_bytes}
use Rattle.hunk_files.specs.declared.hunk_file.HunkFile.{HunkFile}
use Rattle.hunk_parts.specs.Parts.{AreParts}
use Rattle.hunk_parts.specs.Builds.{Builds, IsBuilt, IsRefused, LacksRoom, size_of}
use Rattle.hunk_parts.specs.PartFaults.{RowFault, row_fault}
use Rattle.hunk_parts.specs.RowFields.{AreRows}
use Rattle.hunk_parts.specs.RowsText.{rows_size, rows_text}
use Rattle.hunk_parts.specs.declared.part_row.PartRow.{PartRow}
use Rattle.hunk_parts.specs.declared.row_fault.BuiltSize.{BuiltSize}
use Rattle.hunk_parts.specs.declared.row_fault.NotBuilt.{NotBuilt}
use Rattle.hunk_parts.specs.declared.row_fault.NotBuilt.TheVariants.{NoRoom, Refused}
use Rattle.hunk_parts.proofs.spelled.{RowsSpell.no_file, RowsSpell.rows_spell, RowsSpell.size_is, SpelledFiles.some_file}

pub refused : (bytes old : List ℕ) (rows : List PartRow) (f : RowFault) → row_fault bytes rows ≡ Some f → Builds bytes rows old old (Err (Refused f))
refused bytes old rows f is = IsRefused f is (no_file bytes rows f is) refl refl

pub lacks_room : (bytes old : List ℕ) (rows : List PartRow) (size : BuiltSize) → IsBytes bytes → AreRows rows → row_fault bytes rows ≡ None → size ≡ rows_size bytes rows
    → length old < 4 * length (rows_text bytes rows) → Builds bytes rows old old (Err (NoRoom size))
lacks_room bytes old rows size fit are none is less =
    let file = some_file bytes fit rows are none in
    let spell = ap (λ (xs : List ℕ). length xs) (rows_spell bytes rows file.0 file.1) in
    LacksRoom file.0 file.1 (omega (arith, less, spell, length-bytes_of (rows_text bytes rows))) refl (ap (λ (s : BuiltSize). Err (NoRoom s)) (is ∙ size_is bytes rows file.0 file.1))

pub built : (bytes old new : List ℕ) (rows : List PartRow) (size : BuiltSize) (n : ℕ) → IsBytes bytes → AreRows rows → row_fault bytes rows ≡ None → size ≡ rows_size bytes rows
    → length (bytes_of (rows_text bytes rows)) ≤ length old → n ≡ length (bytes_of (rows_text bytes rows)) → new ≡ bytes_of (rows_text bytes rows) ++ drop n old → Builds bytes rows old new (Ok size)
built bytes old new rows size n fit are none is room count text =
    let file = some_file bytes fit rows are none in
    let spell = rows_spell bytes rows file.0 file.1 in
    IsBuilt file.0 file.1 (omega (arith, room, ap (λ (xs : List ℕ). length xs) spell))
    (text ∙ ap₂ (λ (xs : List ℕ) (k : ℕ). xs ++ drop k old) spell (count ∙ ap (λ (xs : List ℕ). length xs) spell)) (ap (λ (s : BuiltSize). Ok s) (is ∙ size_is bytes rows file.0 file.1))

-- Rows that are the parts of a file are written, where it has room.
pub succeeds : (bytes old new : List ℕ) (rows : List PartRow) (result : Result BuiltSize NotBuilt) → Builds bytes rows old new result
    → (file : HunkFile) → AreParts bytes rows file → length (file_bytes file) ≤ length old → result ≡ Ok (size_of file)
succeeds bytes old new rows result (IsBuilt f parts room text is) file are fits = is ∙ ap (λ (s : BuiltSize). Ok s) (sym (size_is bytes rows f parts) ∙ size_is bytes rows file are)
succeeds bytes old new rows result (LacksRoom f parts less text is) file are fits =
    let same = ap (λ (xs : List ℕ). length xs) (sym (rows_spell bytes rows f parts) ∙ rows_spell bytes rows file are) in
    absurd (omega (arith, less, fits, same))
succeeds bytes old new rows result (IsRefused f is none text told) file are fits = absurd (none file are)
