-- What comes of the warnings of a file.
use Rattle.std.proofs.Common.{◌≡◌, ◌++◌, ◌*◌, ◌<◌, ◌≤◌, ℕ, List, length, drop, sym, ap, subst, ◌∙◌, refl, arith}
use Rattle.std.proofs.lemmas.{List.length-map}
use Rattle.hunk_words.proofs.LongLaws.{length-bytes_of}
use Rattle.hunk_files.specs.HunkFile.{IsFileOf, file_bytes}
use Rattle.hunk_files.specs.LoadFile.{IsLoadFile}
use Rattle.hunk_files.specs.LoadText.{text}
use Rattle.hunk_files.specs.declared.hunk_file.HunkFile.{HunkFile}
use Rattle.hunk_files.specs.declared.hunk_file.HunkFile.TheVariants as files
use Rattle.hunk_lint.specs.Warnings.{warnings}
use Rattle.hunk_lint.proofs.{EnoughRoom.enough_room, FewWarnings.few_warnings}
use Rattle.hunk_c.specs.{Answers.{done, no_room}, Files.hunks_in, Rows.{HasNoRoom, HasRows}}
use Rattle.hunk_c.specs.Warnings.{LacksWorkRoom, ListsWarnings, Warns, WarnsWhatFits, room_in, warning_row, warning_rows}
use Rattle.hunk_c.specs.declared.{answer.Answer.Answer, warnings.WarningRow.WarningRow}
use Rattle.hunk_c.proofs.{Loaded.same_answer, OneFile.{one_file}, Tabulated.what_fits}

-- A file has no more of them than bytes.
pub few : (bytes : List ℕ) (file : HunkFile) → IsFileOf bytes file → length (warning_rows file) ≤ length (file_bytes file)
few bytes (files.Load value rest) is =
    omega (arith, length-map {B = WarningRow} (warnings value) warning_row, few_warnings value (subst IsLoadFile (sym is.1) is.0.is_load_file))
few bytes (files.Object value) is = omega arith

-- It needs no more room than it has longwords.
pub long_enough : (bytes : List ℕ) (file : HunkFile) → IsFileOf bytes file → 4 * room_in file ≤ length (file_bytes file)
long_enough bytes (files.Load value rest) is = omega (arith, enough_room value, length-bytes_of (text value))
long_enough bytes (files.Object value) is = omega arith

module _ (bytes : List ℕ) (room : ℕ) (old : List WarningRow) (file : HunkFile) (is : IsFileOf bytes file) (hunks size n : ℕ) (h : hunks ≡ hunks_in file) (s : size ≡ length (file_bytes file)) (answer : Answer) where
  pub listed : n ≡ length (warning_rows file) → length (warning_rows file) ≤ length old → (new : List WarningRow) → new ≡ warning_rows file ++ drop (length (warning_rows file)) old → answer ≡ done hunks size n →
      Warns bytes room old new answer
  listed count fits new same e = ListsWarnings (HasRows file is fits same (e ∙ same_answer 0 _ _ _ _ _ _ h s count))

  pub short : n ≡ length (warning_rows file) → length old < length (warning_rows file) → answer ≡ no_room hunks size n → Warns bytes room old old answer
  short count less e = ListsWarnings (HasNoRoom file is less refl (e ∙ same_answer 32 _ _ _ _ _ _ h s count))

  pub lacking : room < room_in file → (new : List WarningRow) → new ≡ old → answer ≡ no_room hunks size 0 → Warns bytes room old new answer
  lacking less new same e = LacksWorkRoom file is less same (e ∙ same_answer 32 _ _ _ _ _ _ h s refl)

pub warns_fitting : (bytes : List ℕ) (room : ℕ) (old new : List WarningRow) (answer : Answer) → Warns bytes room old new answer → WarnsWhatFits room (length old) bytes answer
warns_fitting bytes room old new answer (LacksWorkRoom file is less same e) b ok enough fits =
    absurd (omega (arith, less, enough, ap room_in (one_file bytes file b is ok)))
warns_fitting bytes room old new answer (ListsWarnings l) b ok enough fits = what_fits warning_rows (λ n. n) bytes old new answer l b ok fits
