-- The rows of a file have no fault, and spell its text.
use Rattle.std.proofs.Common.{◌≡◌, ℕ, suc, ◌+◌, ◌*◌, ◌≤◌, Bool, cond, List, [], ◌∷◌, length, map, refl, sym, ap, ap₂, subst, ◌∙◌, arith, Some, None}
use Rattle.std.specs.Prelude.{nat_lt}
use Rattle.std.specs.List.{filter, flat_map}
use Rattle.std.proofs.lemmas.Bool.{le-ltb}
use Rattle.hunk_words.specs.Carriers.{saturated}
use Rattle.hunk_words.specs.Limits.{most_hunks}
use Rattle.hunk_words.specs.Longs.{bytes_of}
use Rattle.hunk_words.proofs.LongLaws.{length-bytes_of}
use Rattle.hunk_grammar.specs.declared.object_position.WordPlace.TheVariants.{BeforeUnits}
use Rattle.hunk_files.specs.HunkFile.{file_bytes}
use Rattle.hunk_files.specs.LoadFile.{IsLoadFile, LoadFileValue, TableEntry}
use Rattle.hunk_files.specs.ObjectFile.{IsObjectFile, ObjectFileValue}
use Rattle.hunk_files.specs.declared.hunk_file.HunkFile.{HunkFile}
use Rattle.hunk_files.specs.declared.hunk_file.HunkFile.TheVariants as files
use Rattle.hunk_parts.specs.Builds.{hunks_in, size_of}
use Rattle.hunk_parts.specs.PartFaults.{PartPlace, RowFault, first_place, is_hunk_row, row_fault, rows_fault, start, table_bytes, too_many_hunks}
use Rattle.hunk_parts.specs.Parts.{AreParts, FilePart, hunk_file_parts, of_hunk, of_unit, parts_of, seen, unit_file_parts}
use Rattle.hunk_parts.specs.RowsText.{hunk_entry, is_hunk, parts_text, rows_size, rows_text}
use Rattle.hunk_parts.specs.declared.part_row.PartRow.{PartRow}
use Rattle.hunk_parts.proofs.spelled.FileTexts.{entries_are, file_spells}
use Rattle.hunk_parts.proofs.spelled.FilesPass.{load_passes, object_passes}
use Rattle.hunk_parts.proofs.spelled.Passing.{Pass, PassFrom, heads, no_fault_found}
use Rattle.hunk_parts.proofs.RowSizes.{seen_part}
use Rattle.hunk_parts.proofs.spelled.SeenLongs.{hunks_seen, parts_seen}
use Rattle.std.proofs.lemmas.List.{length-map}

-- ---- the text

pub rows_spell : (bytes : List ℕ) (rows : List PartRow) (file : HunkFile) → AreParts bytes rows file → bytes_of (rows_text bytes rows) ≡ file_bytes file
rows_spell bytes rows file are = ap (λ (qs : List FilePart). bytes_of (parts_text qs)) (parts_seen bytes rows (parts_of file) are.parts) ∙ file_spells (file_bytes file) file are.whole

-- ---- where the rows begin

pub count_hunks : (v : LoadFileValue) → length (filter is_hunk (flat_map hunk_file_parts v)) ≡ length v
count_hunks v =
    sym (length-map (filter is_hunk (flat_map hunk_file_parts v)) hunk_entry) ∙ ap (λ (es : List TableEntry). length es) (entries_are v) ∙ length-map v (λ h. h.entry)

-- The place of the first row is that of the file's first part, and none of the parts is refused from there on.
record Starts (bytes : List ℕ) (rows : List PartRow) (qs : List FilePart) (hunks : ℕ) : Type 0 where
  pub place : PartPlace
  pub is : first_place rows ≡ place
  pub hunks_are : place.hunks ≡ hunks
  pub most : place.hunks ≤ most_hunks
  pub pass : PassFrom place qs

-- whether the first row is a HUNK
first_row : (bytes : List ℕ) (r : PartRow) (rest : List PartRow) (q : FilePart) (qs : List FilePart) → map (seen bytes) (r ∷ rest) ≡ map Some (q ∷ qs) → is_hunk_row r ≡ is_hunk q
first_row bytes r rest q qs e = ap is_hunk (seen_part bytes r q (heads (seen bytes r) (map (seen bytes) rest) q qs e).0)

starts_load : (bytes : List ℕ) (rows : List PartRow) (v : LoadFileValue) → IsLoadFile v → map (seen bytes) rows ≡ map Some (flat_map hunk_file_parts v) → Starts bytes rows (flat_map hunk_file_parts v) (length v)
starts_load bytes rows [] is e = absurd (omega (arith, is.some))
starts_load bytes [] (h ∷ hs) is e = absurd cc
starts_load bytes (r ∷ rest) (h ∷ hs) is e =
    let n = length (filter is_hunk_row (r ∷ rest)) in
    let count : n ≡ suc (length hs) = sym (hunks_seen bytes (r ∷ rest) (flat_map hunk_file_parts (h ∷ hs)) e) ∙ count_hunks (h ∷ hs) in
    record {
      place = start n (20 + table_bytes (r ∷ rest));
      is = ap (λ (b : Bool). cond b (start n (20 + table_bytes (r ∷ rest))) (start 0 0)) (first_row bytes r rest (of_hunk h.entry) _ e);
      hunks_are = count;
      most = omega (arith, count, is.most);
      pass = subst (λ (m : ℕ). Pass m 0 BeforeUnits None (flat_map hunk_file_parts (h ∷ hs))) (sym count) (load_passes (length hs) h hs is.each);
    }

starts_object : (bytes : List ℕ) (rows : List PartRow) (o : ObjectFileValue) → IsObjectFile o → map (seen bytes) rows ≡ map Some (flat_map unit_file_parts o) → Starts bytes rows (flat_map unit_file_parts o) 0
starts_object bytes rows [] is e = absurd (omega (arith, is.some))
starts_object bytes [] (u ∷ us) is e = absurd cc
starts_object bytes (r ∷ rest) (u ∷ us) is e = record {
  place = start 0 0;
  is = ap (λ (b : Bool). cond b (start (length (filter is_hunk_row (r ∷ rest))) (20 + table_bytes (r ∷ rest))) (start 0 0)) (first_row bytes r rest (of_unit u.name) _ e);
  hunks_are = refl;
  most = omega arith;
  pass = object_passes u us is.units;
}

starts : (bytes : List ℕ) (rows : List PartRow) (file : HunkFile) → AreParts bytes rows file → Starts bytes rows (parts_of file) (hunks_in file)
unfolding parts_of
starts bytes rows (files.Load v rest) are = starts_load bytes rows v (subst IsLoadFile (sym are.whole.1) are.whole.0.is_load_file) are.parts
starts bytes rows (files.Object o) are = starts_object bytes rows o (subst IsObjectFile (sym are.whole.1) are.whole.0.is_object_file) are.parts

-- ---- they have no fault

pub no_fault : (bytes : List ℕ) (rows : List PartRow) (file : HunkFile) → AreParts bytes rows file → row_fault bytes rows ≡ None
no_fault bytes rows file are =
    let s = starts bytes rows file are in
    let none = no_fault_found bytes s.place 0 rows (parts_of file) are.parts s.pass in
    let here : cond (nat_lt most_hunks s.place.hunks) (Some (too_many_hunks rows)) (rows_fault bytes s.place 0 rows) ≡ None = rw (le-ltb most_hunks s.place.hunks s.most) none in
    subst (λ (p : PartPlace). cond (nat_lt most_hunks p.hunks) (Some (too_many_hunks rows)) (rows_fault bytes p 0 rows) ≡ None) (sym s.is) here

-- Rows with a fault are the parts of no file.
pub no_file : (bytes : List ℕ) (rows : List PartRow) (f : RowFault) → row_fault bytes rows ≡ Some f → (file : HunkFile) → AreParts bytes rows file → ⊥
no_file bytes rows f is file are = let clash = sym is ∙ no_fault bytes rows file are in cc

-- ---- their size

pub size_is : (bytes : List ℕ) (rows : List PartRow) (file : HunkFile) → AreParts bytes rows file → rows_size bytes rows ≡ size_of file
size_is bytes rows file are =
    let s = starts bytes rows file are in
    let bytes_are : 4 * length (rows_text bytes rows) ≡ length (file_bytes file) = sym (length-bytes_of (rows_text bytes rows)) ∙ ap (λ (xs : List ℕ). length xs) (rows_spell bytes rows file are) in
    ap₂ (λ (h n : ℕ). record { hunks = h; bytes = saturated n }) (ap (λ (p : PartPlace). p.hunks) s.is ∙ s.hunks_are) bytes_are
