-- Rows without a fault are the parts of a file.
use Rattle.std.proofs.Common.{◌≡◌, ℕ, zero, suc, ◌+◌, ◌<◌, ◌≤◌, Bool, true, false, cond, List, [], ◌∷◌, ◌++◌, length, map, refl, sym, ap, subst, ◌∙◌, append-nil, arith, Some, None}
use Rattle.std.specs.Prelude.{nat_lt}
use Rattle.std.specs.List.{AllByRecursion, filter, flat_map}
use Rattle.std.proofs.lemmas.Bool.{ltb-false}
use Rattle.hunk_words.specs.Limits.{most_hunks}
use Rattle.hunk_words.specs.Longs.{IsBytes, bytes_of}
use Rattle.hunk_grammar.specs.declared.object_position.WordPlace.TheVariants.{BeforeUnits}
use Rattle.hunk_blocks.specs.Values.{BlockValue}
use Rattle.hunk_blocks.proofs.Lists.{passed_both}
use Rattle.hunk_files.specs.HunkFile.{IsFileOf, file_bytes}
use Rattle.hunk_files.specs.LoadFile.{IsHunk, IsLoadFile, LoadFileValue}
use Rattle.hunk_files.specs.LoadText.{text}
use Rattle.hunk_files.specs.ObjectFile.{IsObjectFile, ObjectHunk, ObjectFileValue}
use Rattle.hunk_files.specs.declared.hunk_file.HunkFile.{HunkFile}
use Rattle.hunk_files.specs.declared.hunk_file.HunkFile.TheVariants as files
use Rattle.hunk_parts.specs.Builds.{hunks_in}
use Rattle.hunk_parts.specs.PartFaults.{first_place, is_hunk_row, row_fault, rows_fault, start, table_bytes}
use Rattle.hunk_parts.specs.Parts.{AreParts, FilePart, block_file_parts, hunk_file_parts, parts_of, seen}
use Rattle.hunk_parts.specs.RowsText.{is_hunk}
use Rattle.hunk_parts.specs.RowFields.{AreRows}
use Rattle.hunk_parts.specs.declared.part_row.PartRow.{PartRow}
use Rattle.hunk_parts.proofs.spelled.LoadTails.{blocks_first, load_tail}
use Rattle.hunk_parts.proofs.spelled.ObjectTails.{object_tail, unit_rest}
use Rattle.hunk_parts.proofs.spelled.Passing.{Pass, Passing, passing}
use Rattle.hunk_parts.proofs.spelled.SeenLongs.{hunks_seen, longs_seen}
use Rattle.hunk_parts.proofs.spelled.Tails.{HasLongs}

-- These are the parts of a file of so many hunks, which nothing follows.
pub record OfFile (hunks : ℕ) (qs : List FilePart) : Type 0 where
  pub file : HunkFile
  pub hunks_are : hunks_in file ≡ hunks
  pub whole : IsFileOf (file_bytes file) file
  pub parts : qs ≡ parts_of file

-- ---- a value is a file

pub load_whole : (v : LoadFileValue) → IsLoadFile v → IsFileOf (file_bytes (files.Load v 0)) (files.Load v 0)
load_whole v is = (record { value = v; is_load_file = is; rest = []; split = sym (append-nil (bytes_of (text v))) }, refl, refl)

pub object_whole : (o : ObjectFileValue) → IsObjectFile o → IsFileOf (file_bytes (files.Object o)) (files.Object o)
object_whole o is = (record { value = o; is_object_file = is; text_is = refl }, refl)

-- ---- parts that pass

pub load_of : (n : ℕ) (qs : List FilePart) → AllByRecursion HasLongs qs → length (filter is_hunk qs) ≡ suc n → suc n ≤ most_hunks → Pass (suc n) 0 BeforeUnits None qs → OfFile (suc n) qs
unfolding parts_of
load_of n qs fit count most pass =
    let t = load_tail n 0 BeforeUnits None qs fit pass tt in
    let size : length t.more ≡ suc n = t.count ∙ count in
    let is : IsLoadFile t.more = record {
      some = omega (arith, size);
      most = omega (arith, size, most);
      each = subst (λ (m : ℕ). AllByRecursion (IsHunk m) t.more) (sym size) t.are;
    } in
    record {
      file = files.Load t.more 0;
      hunks_are = size;
      whole = load_whole t.more is;
      parts = blocks_first (suc n) 0 BeforeUnits qs (flat_map hunk_file_parts t.more) t.tail ∙ ap (λ (bs : List BlockValue). flat_map block_file_parts bs ++ flat_map hunk_file_parts t.more) t.tail.stand;
    }

pub object_of : (qs : List FilePart) → AllByRecursion HasLongs qs → Pass 0 0 BeforeUnits None qs → OfFile 0 qs
unfolding parts_of
object_of qs fit pass =
    let t = object_tail 0 BeforeUnits None qs fit pass tt in
    record {
      file = files.Object t.units;
      hunks_are = refl;
      whole = object_whole t.units (record { some = t.follow.1; units = t.are_units });
      parts =
          blocks_first 0 0 BeforeUnits qs (unit_rest t.hunks t.units) t.tail
          ∙ ap (λ (bs : List BlockValue). flat_map block_file_parts bs ++ unit_rest t.hunks t.units) t.tail.stand
          ∙ ap (λ (hs : List ObjectHunk). unit_rest hs t.units) t.follow.0;
    }

-- ---- rows

some_hunk : (r : PartRow) (rows : List PartRow) → is_hunk_row r ≡ true → 0 < length (filter is_hunk_row (r ∷ rows))
some_hunk r rows e = rw e (omega arith)

module _ (bytes : List ℕ) (fit : IsBytes bytes) where
  file_of : (rows : List PartRow) (qs : List FilePart) → map (seen bytes) rows ≡ map Some qs → (hunks : ℕ) × OfFile hunks qs → (file : HunkFile) × AreParts bytes rows file
  file_of rows qs e f = (f.1.file, record { whole = f.1.whole; parts = e ∙ ap (λ (ps : List FilePart). map Some ps) f.1.parts })

  load_rows : (rows : List PartRow) (n : ℕ) → AreRows rows → length (filter is_hunk_row rows) ≡ n → 0 < n → n ≤ most_hunks → (qs : List FilePart) → map (seen bytes) rows ≡ map Some qs →
      Pass n 0 BeforeUnits None qs → OfFile n qs
  load_rows rows zero are count some most qs e pass = absurd (omega (arith, some))
  load_rows rows (suc n) are count some most qs e pass = load_of n qs (longs_seen bytes rows qs fit are e) (hunks_seen bytes rows qs e ∙ count) most pass

  of_rows : (r : PartRow) (rows : List PartRow) → AreRows (r ∷ rows) → (b : Bool) → is_hunk_row r ≡ b →
      nat_lt most_hunks (cond b (start (length (filter is_hunk_row (r ∷ rows))) (20 + table_bytes (r ∷ rows))) (start 0 0)).hunks ≡ false →
      (p : Passing bytes (r ∷ rows) (cond b (start (length (filter is_hunk_row (r ∷ rows))) (20 + table_bytes (r ∷ rows))) (start 0 0))) → (hunks : ℕ) × OfFile hunks p.parts
  of_rows r rows are true e most p =
      let n = length (filter is_hunk_row (r ∷ rows)) in
      (n, load_rows (r ∷ rows) n are refl (some_hunk r rows e) (ltb-false most_hunks n most) p.parts p.seen_are p.pass)
  of_rows r rows are false e most p = (0, object_of p.parts (longs_seen bytes (r ∷ rows) p.parts fit are p.seen_are) p.pass)

  -- Rows without a fault are the parts of a file.
  pub some_file : (rows : List PartRow) → AreRows rows → row_fault bytes rows ≡ None → (file : HunkFile) × AreParts bytes rows file
  some_file [] are e = absurd cc
  some_file (r ∷ rows) are e =
      let both = passed_both (nat_lt most_hunks (first_place (r ∷ rows)).hunks) _ (rows_fault bytes (first_place (r ∷ rows)) 0 (r ∷ rows)) e in
      let p = passing bytes (first_place (r ∷ rows)) 0 (r ∷ rows) both.1 in
      file_of (r ∷ rows) p.parts p.seen_are (of_rows r rows are (is_hunk_row r) refl both.0 p)
