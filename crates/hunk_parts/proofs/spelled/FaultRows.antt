-- A fault is at the first row of which no file is made.
use Rattle.std.proofs.Common.{add-one, ◌≡◌, ℕ, zero, suc, ◌+◌, ◌<◌, ◌≤◌, Bool, true, false, cond, List, [], ◌∷◌, ◌++◌, length, map, take, refl, sym, ap, subst, ◌∙◌, arith, Option, Some, None}
use Rattle.std.specs.Prelude.{⊤, nat_lt}
use Rattle.std.specs.List.{AllByRecursion, filter, flat_map}
use Rattle.std.proofs.lemmas.Bool.{le-ltb}
use Rattle.std.proofs.lemmas.List.{map-append}
use Rattle.hunk_words.specs.Limits.{most_hunks}
use Rattle.hunk_words.specs.Longs.{IsBytes}
use Rattle.hunk_grammar.specs.declared.object_position.WordPlace.TheVariants.{BeforeUnits}
use Rattle.hunk_blocks.proofs.Lists.{All-append}
use Rattle.hunk_files.specs.HunkFile.{IsFileOf, file_bytes}
use Rattle.hunk_files.specs.LoadFile.{IsLoadFile, LoadFileValue}
use Rattle.hunk_files.specs.ObjectFile.{IsObjectFile, ObjectFileValue}
use Rattle.hunk_files.specs.declared.hunk_file.HunkFile.{HunkFile}
use Rattle.hunk_files.specs.declared.hunk_file.HunkFile.TheVariants as files
use Rattle.hunk_parts.specs.Builds.{hunks_in}
use Rattle.hunk_parts.specs.FirstRow.{BeginsSome}
use Rattle.hunk_parts.specs.PartFaults.{PartPlace, first_place, is_hunk_row, row_fault, rows_fault, start, table_bytes, too_many_hunks}
use Rattle.hunk_parts.specs.Parts.{FilePart, hunk_file_parts, parts_of, seen, unit_file_parts}
use Rattle.hunk_parts.specs.RowFields.{AreRows}
use Rattle.hunk_parts.specs.RowsText.{is_hunk}
use Rattle.hunk_parts.specs.declared.part_row.PartRow.{PartRow}
use Rattle.hunk_parts.specs.declared.row_fault.RowFault.{RowFault}
use Rattle.hunk_parts.proofs.spelled.Completing.{Counts, IsFresh}
use Rattle.hunk_parts.proofs.spelled.FilesPass.{load_passes, object_passes}
use Rattle.hunk_parts.proofs.spelled.FirstRow.{none_begins}
use Rattle.hunk_parts.proofs.spelled.FrontOfFile.{some_begins}
use Rattle.hunk_parts.proofs.spelled.Passing.{Pass}
use Rattle.hunk_parts.proofs.spelled.SeenLongs.{longs_seen}
use Rattle.hunk_parts.proofs.spelled.SpelledFiles.{OfFile, load_of, object_of}
use Rattle.hunk_parts.proofs.spelled.Tails.{HasLongs}

-- ---- where the rows begin

-- Of a load file all its hunks are among them.
abbrev AllCounted : ℕ → List PartRow → Type 0
AllCounted zero rows = ⊤
AllCounted (suc n) rows = length (filter is_hunk_row rows) ≡ suc n

record First (rows : List PartRow) : Type 0 where
  pub hunks : ℕ
  pub size : ℕ
  pub is : first_place rows ≡ start hunks size
  pub counted : AllCounted hunks rows

all_counted : (n : ℕ) (rows : List PartRow) → length (filter is_hunk_row rows) ≡ n → AllCounted n rows
all_counted zero rows e = tt
all_counted (suc n) rows e = e

first_by : (r : PartRow) (rest : List PartRow) (b : Bool) → is_hunk_row r ≡ b → First (r ∷ rest)
first_by r rest true e = record {
  hunks = length (filter is_hunk_row (r ∷ rest));
  size = 20 + table_bytes (r ∷ rest);
  is = ap (λ (b : Bool). cond b (start (length (filter is_hunk_row (r ∷ rest))) (20 + table_bytes (r ∷ rest))) (start 0 0)) e;
  counted = all_counted (length (filter is_hunk_row (r ∷ rest))) (r ∷ rest) refl;
}
first_by r rest false e = record {
  hunks = 0;
  size = 0;
  is = ap (λ (b : Bool). cond b (start (length (filter is_hunk_row (r ∷ rest))) (20 + table_bytes (r ∷ rest))) (start 0 0)) e;
  counted = tt;
}

first : (rows : List PartRow) → First rows
first [] = record { hunks = 0; size = 0; is = refl; counted = tt }
first (r ∷ rest) = first_by r rest (is_hunk_row r) refl

fault_from : (bytes : List ℕ) (rows : List PartRow) (p : PartPlace) (f : RowFault) → first_place rows ≡ p → (first_place rows).hunks ≤ most_hunks → row_fault bytes rows ≡ Some f → rows_fault bytes p 0 rows ≡ Some f
fault_from bytes rows p f is few e =
    let here : cond (nat_lt most_hunks (first_place rows).hunks) (Some (too_many_hunks rows)) (rows_fault bytes (first_place rows) 0 rows) ≡ Some f = e in
    sym (ap (λ (q : PartPlace). rows_fault bytes q 0 rows) is) ∙ (rw (le-ltb most_hunks (first_place rows).hunks few) at here)

-- ---- the rows before begin some file

taken : (rows : List PartRow) (count : ℕ) → AreRows rows → AreRows (take count rows)
taken rows zero are = tt
taken [] (suc count) are = tt
taken (r ∷ rows) (suc count) are = (are.0, taken rows count are.1)

fresh : (hunks : ℕ) (rows : List PartRow) → AllCounted hunks rows → IsFresh hunks BeforeUnits (length (filter is_hunk_row rows))
fresh zero rows counted = tt
fresh (suc n) rows counted = λ e. omega (arith, counted)

file_of : (hunks : ℕ) (rows : List PartRow) (qs : List FilePart) → AllCounted hunks rows → hunks ≤ most_hunks → AllByRecursion HasLongs qs → Counts hunks (length (filter is_hunk qs)) (length (filter is_hunk_row rows)) → Pass hunks 0 BeforeUnits None qs → OfFile hunks qs
file_of zero rows qs counted few fit count pass = object_of qs fit pass
file_of (suc n) rows qs counted few fit count pass = load_of n qs fit (count ∙ counted) few pass

begun_file : (bytes : List ℕ) (rows : List PartRow) (count hunks : ℕ) (front more : List FilePart) → map (seen bytes) (take count rows) ≡ map Some front → OfFile hunks (front ++ more) → BeginsSome hunks bytes rows count
begun_file bytes rows count hunks front more seen_are f = record {
  file = f.file;
  whole = f.whole;
  hunks_are = f.hunks_are;
  more = more;
  begins = ap (λ (qs : List FilePart). map Some qs) (sym f.parts) ∙ map-append (λ (q : FilePart). Some q) front more ∙ ap (λ (xs : List (Option FilePart)). xs ++ map Some more) (sym seen_are);
}

pub begins : (bytes : List ℕ) (rows : List PartRow) (f : RowFault) → IsBytes bytes → AreRows rows → (first_place rows).hunks ≤ most_hunks → row_fault bytes rows ≡ Some f → BeginsSome (first_place rows).hunks bytes rows f.row
begins bytes rows f fit are few e =
    let p = first rows in
    let hunks_are : (first_place rows).hunks ≡ p.hunks = ap (λ (q : PartPlace). q.hunks) p.is in
    let g = some_begins bytes (start p.hunks p.size) 0 rows f (fault_from bytes rows (start p.hunks p.size) f p.is few e) tt (fresh p.hunks rows p.counted) f.row (omega arith) in
    let longs = All-append HasLongs g.front g.more (longs_seen bytes (take f.row rows) g.front fit (taken rows f.row are) g.seen_are) g.are_longs in
    subst (λ (n : ℕ). BeginsSome n bytes rows f.row) (sym hunks_are)
    (begun_file bytes rows f.row p.hunks g.front g.more g.seen_are (file_of p.hunks rows (g.front ++ g.more) p.counted (omega (arith, few, hunks_are)) longs g.hunks g.pass))

-- ---- and with that row none

load_file_passes : (v : LoadFileValue) → IsLoadFile v → Pass (length v) 0 BeforeUnits None (flat_map hunk_file_parts v)
load_file_passes [] is = absurd (omega (arith, is.some))
load_file_passes (h ∷ hs) is = load_passes (length hs) h hs is.each

object_file_passes : (o : ObjectFileValue) → IsObjectFile o → Pass 0 0 BeforeUnits None (flat_map unit_file_parts o)
object_file_passes [] is = absurd (omega (arith, is.some))
object_file_passes (u ∷ us) is = object_passes u us is.units

file_passes : (bytes : List ℕ) (file : HunkFile) → IsFileOf bytes file → Pass (hunks_in file) 0 BeforeUnits None (parts_of file)
unfolding parts_of
file_passes bytes (files.Load v rest) is = load_file_passes v (subst IsLoadFile (sym is.1) is.0.is_load_file)
file_passes bytes (files.Object o) is = object_file_passes o (subst IsObjectFile (sym is.1) is.0.is_object_file)

pub stops : (bytes : List ℕ) (rows : List PartRow) (f : RowFault) → (first_place rows).hunks ≤ most_hunks → row_fault bytes rows ≡ Some f → f.row < length rows → BeginsSome (first_place rows).hunks bytes rows (f.row + 1) → ⊥
stops bytes rows f few e below b =
    let p = first rows in
    let hunks_are : hunks_in b.file ≡ p.hunks = b.hunks_are ∙ ap (λ (q : PartPlace). q.hunks) p.is in
    none_begins bytes (start p.hunks p.size) 0 rows f (fault_from bytes rows (start p.hunks p.size) f p.is few e) f.row (omega arith) below (record {
      qs = parts_of b.file;
      more = b.more;
      seen_are = b.begins ∙ ap (λ (n : ℕ). map (seen bytes) (take n rows) ++ map Some b.more) (add-one f.row);
      pass = subst (λ (n : ℕ). Pass n 0 BeforeUnits None (parts_of b.file)) hunks_are (file_passes (file_bytes b.file) b.file b.whole);
    })
