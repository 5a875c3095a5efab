-- What is listed in the caller's rows.
use Rattle.std.proofs.Common.{◌≡◌, ◌++◌, ◌≤◌, ◌<◌, ◌^◌, ℕ, List, [], ◌∷◌, length, drop, refl, sym, ap, ◌∙◌, arith}
use Rattle.hunk_words.specs.Carriers.{saturated}
use Rattle.hunk_files.specs.{HunkFile.{IsFileOf, file_bytes}}
use Rattle.hunk_files.specs.{declared.hunk_file.HunkFile.HunkFile}
use Rattle.hunk_c.specs.{Answers.no_room, Checks.{finding_rows}, Files.hunks_in}
use Rattle.hunk_c.specs.Rows.{Lists, ListsExactly, ListsWhatFits, Tabulates, HasRows, HasNoRoom, HasNoFile}
use Rattle.hunk_c.specs.declared.{answer.Answer.Answer}
use Rattle.hunk_c.proofs.OneFile.{are_file, file_size, one_file}
use Rattle.hunk_c.proofs.FewRows as few

pub what_fits : {Row : Type 0} (rows : HunkFile → List Row) (told : ℕ → ℕ) (bytes : List ℕ) (old new : List Row) (answer : Answer) → Lists rows told bytes old new answer →
    ListsWhatFits rows (length old) bytes answer
what_fits rows told bytes old new answer (HasRows a is fits same e) b ok room = ap (λ (x : Answer). x.number) e
what_fits rows told bytes old new answer (HasNoRoom a is less same e) b ok room =
    absurd (omega (arith, less, room, ap (λ (x : HunkFile). length (rows x)) (one_file bytes a b is ok)))
what_fits rows told bytes old new answer (HasNoFile f absent same e) b ok room = absurd (absent.1 (are_file bytes b ok))

-- A count that fits a slice is exact.
pub counted : (count n room : ℕ) → count ≡ saturated n → count ≤ room → room < 2 ^ 63 → count ≡ n
counted count n room is fits small = omega (arith, is, fits, small)

-- No rows are written over none.
pub none_written : {Row : Type 0} (xs old : List Row) → xs ≡ [] → old ≡ xs ++ drop (length xs) old
none_written {Row} xs old e = sym (ap (λ (ys : List Row). ys ++ drop (length ys) old) e)

pub none_left : {Row : Type 0} (xs : List Row) → length xs ≡ 0 → xs ≡ []
none_left [] e = refl
none_left (x ∷ xs) e = absurd (omega (arith, e))

-- Where they are few, just so many are told.
pub exactly : {Row : Type 0} (rows : HunkFile → List Row) (bytes : List ℕ) (old new : List Row) (answer : Answer) → ((file : HunkFile) → IsFileOf bytes file → length (rows file) < 2 ^ 64) →
    Tabulates rows bytes old new answer → ListsExactly rows bytes old new answer
exactly rows bytes old new answer few (HasRows a is fits same e) = HasRows a is fits same e
exactly rows bytes old new answer few (HasNoRoom a is less same e) = HasNoRoom a is less same (e ∙ ap (no_room (hunks_in a) (length (file_bytes a))) (omega (arith, few a is)))
exactly rows bytes old new answer few (HasNoFile f absent same e) = HasNoFile f absent same e

-- They are few where there is one for each finding.
pub few_findings : (bytes : List ℕ) (file : HunkFile) → length bytes < 2 ^ 63 → IsFileOf bytes file → length (finding_rows file) < 2 ^ 64
few_findings bytes file small is = omega (arith, few.few_findings bytes file (length (file_bytes file)) is (omega arith), file_size bytes file is, small)
