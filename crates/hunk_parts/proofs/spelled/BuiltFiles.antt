-- What is built is read back, and a file that was read is built again.
use Rattle.std.proofs.Common.{◌≡◌, ℕ, ◌^◌, ◌<◌, ◌≤◌, List, ◌++◌, length, length-append, take, drop, refl, sym, ap, ap₂, subst, ◌∙◌, arith}
use Rattle.std.specs.Prelude.{Result, Ok}
use Rattle.std.proofs.Math.Seq.{take-append_seam}
use Rattle.hunk_words.specs.Carriers.{saturated}
use Rattle.hunk_words.specs.Longs.{bytes_of}
use Rattle.hunk_files.specs.HunkFile.{IsFileOf, bytes_after, file_bytes}
use Rattle.hunk_files.specs.LoadFile.{IsLoadFile, LoadFileValue}
use Rattle.hunk_files.specs.LoadText.{text}
use Rattle.hunk_files.specs.ObjectFile.{IsObjectFile}
use Rattle.hunk_files.specs.declared.hunk_file.HunkFile.{HunkFile}
use Rattle.hunk_files.specs.declared.hunk_file.HunkFile.TheVariants as files
use Rattle.hunk_parts.specs.Builds.{Builds, IsBuilt, IsRefused, LacksRoom, size_of}
use Rattle.hunk_parts.specs.PartRows.{part_rows}
use Rattle.hunk_parts.specs.Parts.{AreParts, parts_of}
use Rattle.hunk_parts.specs.ReadBack.{HasRows}
use Rattle.hunk_parts.specs.declared.part_row.PartRow.{PartRow}
use Rattle.hunk_parts.specs.declared.row_fault.BuiltSize.{BuiltSize}
use Rattle.hunk_parts.specs.declared.row_fault.NotBuilt.{NotBuilt}
use Rattle.hunk_parts.proofs.SeenParts.{file_parts}
use Rattle.hunk_parts.proofs.spelled.RowsSpell.{rows_spell, size_is}
use Rattle.hunk_parts.proofs.spelled.SpelledFiles.{load_whole, object_whole}

-- ---- the file alone

-- A file of its own bytes has nothing after it.
nothing_after : (file : HunkFile) → IsFileOf (file_bytes file) file → bytes_after file ≡ 0
nothing_after (files.Load v rest) is =
    omega (
      arith,
      is.2,
      ap (λ (xs : List ℕ). length xs) is.0.split,
      ap (λ (w : LoadFileValue). length (bytes_of (text w))) is.1,
      length-append (bytes_of (text is.0.value)) is.0.rest,
    )
nothing_after (files.Object v) is = refl

-- Where a file was read, its rows are the parts of the same file with nothing after it.
record Alone (bytes : List ℕ) (file : HunkFile) : Type 0 where
  pub same : HunkFile
  pub are : AreParts bytes (part_rows file) same
  pub bytes_are : file_bytes same ≡ file_bytes file
  pub size : size_of same ≡ size_of file

alone : (bytes : List ℕ) (file : HunkFile) → IsFileOf bytes file → Alone bytes file
unfolding parts_of
alone bytes (files.Load v rest) is = record {
  same = files.Load v 0;
  are = record { whole = load_whole v (subst IsLoadFile (sym is.1) is.0.is_load_file); parts = file_parts bytes (files.Load v rest) is };
  bytes_are = refl;
  size = refl;
}
alone bytes (files.Object o) is = record {
  same = files.Object o;
  are = record { whole = object_whole o (subst IsObjectFile (sym is.1) is.0.is_object_file); parts = file_parts bytes (files.Object o) is };
  bytes_are = refl;
  size = refl;
}

-- ---- built again

-- Rows are the parts of one text.
one_text : (bytes : List ℕ) (rows : List PartRow) (a b : HunkFile) → AreParts bytes rows a → AreParts bytes rows b → file_bytes a ≡ file_bytes b
one_text bytes rows a b one other = sym (rows_spell bytes rows a one) ∙ rows_spell bytes rows b other

one_size : (bytes : List ℕ) (rows : List PartRow) (a b : HunkFile) → AreParts bytes rows a → AreParts bytes rows b → size_of a ≡ size_of b
one_size bytes rows a b one other = sym (size_is bytes rows a one) ∙ size_is bytes rows b other

abbrev pub IsAgain : HunkFile → List ℕ → List ℕ → Result BuiltSize NotBuilt → Type 0
IsAgain file old new result = (result ≡ Ok (size_of file)) × (new ≡ file_bytes file ++ drop (length (file_bytes file)) old)

again : (bytes : List ℕ) (file : HunkFile) (old new : List ℕ) (result : Result BuiltSize NotBuilt) → Alone bytes file → length (file_bytes file) ≤ length old → Builds bytes (part_rows file) old new result → IsAgain file old new result
again bytes file old new result a room (IsBuilt built are fits text is) =
    let same : file_bytes built ≡ file_bytes file = one_text bytes (part_rows file) built a.same are a.are ∙ a.bytes_are in (
      is ∙ ap (λ (s : BuiltSize). Ok s) (one_size bytes (part_rows file) built a.same are a.are ∙ a.size),
      text ∙ ap (λ (xs : List ℕ). xs ++ drop (length xs) old) same,
    )
again bytes file old new result a room (LacksRoom built are lacks kept is) =
    absurd (omega (arith, room, lacks, ap (λ (xs : List ℕ). length xs) (one_text bytes (part_rows file) built a.same are a.are ∙ a.bytes_are)))
again bytes file old new result a room (IsRefused f fault none kept is) = absurd (none a.same a.are)

pub built_again : (bytes : List ℕ) (file : HunkFile) (old new : List ℕ) (result : Result BuiltSize NotBuilt) → IsFileOf bytes file → length (file_bytes file) ≤ length old → Builds bytes (part_rows file) old new result → IsAgain file old new result
built_again bytes file old new result is room builds = again bytes file old new result (alone bytes file is) room builds

-- ---- read back

exact : (n most : ℕ) → n ≤ most → most < 2 ^ 64 → saturated n ≡ n
exact n most fits few = omega arith

front : (n : ℕ) (whole rest new : List ℕ) → n ≡ length whole → new ≡ whole ++ rest → take n new ≡ whole
front n whole rest new size is = ap₂ (λ (k : ℕ) (xs : List ℕ). take k xs) size is ∙ take-append_seam whole rest

pub read_back : (bytes : List ℕ) (rows : List PartRow) (old new : List ℕ) (size : BuiltSize) → length old < 2 ^ 64 → Builds bytes rows old new (Ok size) → (file : HunkFile) × HasRows bytes rows (take size.bytes new) file
read_back bytes rows old new size few (IsBuilt file are fits text is) =
    let told : size ≡ size_of file = cc in
    let count : size.bytes ≡ length (file_bytes file) = ap (λ (s : BuiltSize). s.bytes) told ∙ exact (length (file_bytes file)) (length old) fits few in
    let same : take size.bytes new ≡ file_bytes file = front size.bytes (file_bytes file) (drop (length (file_bytes file)) old) new count text in (
      file,
      subst (λ (t : List ℕ). HasRows bytes rows t file) (sym same) (record {
        whole = are.whole;
        nothing_after = nothing_after file are.whole;
        again = file_parts (file_bytes file) file are.whole ∙ sym are.parts;
      }),
    )
read_back bytes rows old new size few (LacksRoom file are lacks kept is) = absurd cc
read_back bytes rows old new size few (IsRefused f fault none kept is) = absurd cc
