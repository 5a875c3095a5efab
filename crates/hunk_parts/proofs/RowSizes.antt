-- How large the text of rows is, row by row.
use Rattle.std.proofs.Common.{add-one, ◌≡◌, ◌<◌, ◌≤◌, ◌+◌, ◌*◌, ◌&&◌, ◌||◌, ◌==◌, ◌∷◌, ◌++◌, ℕ, Bool, true, false, nat_lt, List, [], length, length-append, map, drop, get_or, take, arith, ap, ◌∙◌, ap₂, refl, Option, Some, None, sym, if◌then◌else◌}
use Rattle.std.specs.Prelude.{is_some}
use Rattle.std.specs.List.{filter, flat_map}
use Rattle.std.proofs.Math.Seq.{drop-cons}
use Rattle.std.proofs.lemmas.Bool.{eqb-true, false≢true, le-ltb}
use Rattle.std.proofs.lemmas.Option.{none-some, same_Some}
use Rattle.hunk_words.specs.Bits.{entry_longs, kind}
use Rattle.hunk_words.specs.Limits.{most_hunks}
use Rattle.hunk_files.specs.LoadFile.{TableEntry}
use Rattle.hunk_files.specs.LoadText.{entry_labelled, header_labelled}
use Rattle.hunk_words.specs.Carriers.{saturated}
use Rattle.hunk_words.specs.declared.block_word.Kind.{Kind}
use Rattle.hunk_grammar.specs.ExtKinds.{ext_shape}
use Rattle.hunk_grammar.specs.declared.ext_shape.ExtShape.{ExtShape}
use Rattle.hunk_grammar.specs.declared.ext_shape.ExtShape.TheVariants.{Definition, References, Common}
use Rattle.hunk_grammar.specs.Roles.{Role}
use Rattle.hunk_blocks.specs.Faults.{words}
use Rattle.std.proofs.lemmas.List.{length-map}
use Rattle.hunk_parts.specs.PartFaults.{PartPlace, Refusal, RowFault, block_longs, closing_bytes, first_place, is_hunk_row, list_after, next_fault, start, table_bytes, part_longs, refuse_row, row_fault, rows_fault, shape_longs, size_of_part, step_part, step_row}
use Rattle.hunk_parts.specs.Parts.{FilePart, block_part, entry_part, group_part, part_of_bytes, run_at, seen, seen_by, symbol_part, unit_part}
use Rattle.hunk_parts.specs.RowsText.{closing, hunk_entry, is_hunk, named_text, part_text, payload_text, row_part, rows_text, shape_text, text_from}
use Rattle.hunk_parts.specs.declared.part_row.PartRow.{PartRow}

-- ---- a part

-- where both have the same test
same_test : (b : Bool) (m n : ℕ) (xs ys : List ℕ) → m ≡ length xs → n ≡ length ys → (if b then m else n) ≡ length (if b then xs else ys)
same_test true m n xs ys one other = one
same_test false m n xs ys one other = other

closed : (b : Bool) → (if b then 4 else 0) ≡ 4 * length {A = ℕ} (if b then 0 ∷ [] else [])
closed true = refl
closed false = refl

closed_length : (list : Option Kind) (what : ℕ) → closing_bytes list what ≡ 4 * length (closing list what)
closed_length list what = closed (is_some list && (what == unit_part || what == block_part))

payload_length : (k : Kind) (q : FilePart) → block_longs k (size_of_part q) ≡ 1 + length (payload_text k q)
payload_length k q = grind arith

shape_length : (s : Option ExtShape) (q : FilePart) → shape_longs s (size_of_part q) ≡ length (shape_text s q)
shape_length (Some Definition) q = refl
shape_length (Some References) q = omega arith
shape_length (Some Common) q = omega arith
shape_length None q = refl

pub part_length : (q : FilePart) → part_longs (size_of_part q) ≡ length (part_text q)
part_length q =
    same_test (q.what == unit_part) _ _ _ _ (omega arith)
    (same_test (q.what == block_part) _ _ _ _ (payload_length (kind q.word) q ∙ omega arith)
    (same_test (q.what == group_part) _ _ _ _ (omega arith)
    (same_test (q.what == symbol_part) _ _ _ _ (omega (arith, length-append (named_text q) (q.value ∷ [])))
    (same_test (q.what == entry_part) _ _ _ _ (omega (arith, shape_length (ext_shape q.word) q, length-append (named_text q) (shape_text (ext_shape q.word) q))) refl))))

-- ---- the part that a row is

nothing : (b : Bool) (x : List ℕ) (y : Option (List ℕ)) (xs : List ℕ) → (b ≡ true → x ≡ []) → (if b then Some [] else y) ≡ Some xs → (b ≡ false → y ≡ Some xs → xs ≡ x) → xs ≡ x
nothing true x y xs empty is other = sym (same_Some _ _ is) ∙ sym (empty refl)
nothing false x y xs empty is other = other refl is

within : (b : Bool) (x xs : List ℕ) → (if b then None else Some x) ≡ Some xs → xs ≡ x
within true x xs is = absurd (none-some _ is)
within false x xs is = sym (same_Some _ _ is)

run_is : (bytes : List ℕ) (place count : ℕ) (xs : List ℕ) → run_at bytes place count ≡ Some xs → xs ≡ take count (drop place bytes)
run_is bytes place count xs is =
    nothing (count == 0) (take count (drop place bytes)) _ xs (λ zero. ap (λ (n : ℕ). take n (drop place bytes)) (eqb-true count 0 zero)) is
    (λ more there. within (nat_lt (length bytes) (place + count)) _ xs there)

seen_is : (r : PartRow) (a b : Option (List ℕ)) (q : FilePart) (xs ys : List ℕ) → seen_by r a b ≡ Some q → ((zs : List ℕ) → a ≡ Some zs → zs ≡ xs) → ((zs : List ℕ) → b ≡ Some zs → zs ≡ ys)
    → part_of_bytes r.what r.word r.value xs ys ≡ q
seen_is r (Some a) (Some b) q xs ys is content offsets =
    ap₂ (λ (xs ys : List ℕ). part_of_bytes r.what r.word r.value xs ys) (sym (content a refl)) (sym (offsets b refl)) ∙ same_Some _ _ is
seen_is r None b q xs ys is content offsets = absurd (none-some _ is)
seen_is r (Some a) None q xs ys is content offsets = absurd (none-some _ is)

-- A row that is seen is this part.
pub seen_part : (bytes : List ℕ) (r : PartRow) (q : FilePart) → seen bytes r ≡ Some q → row_part bytes r ≡ q
seen_part bytes r q is =
    seen_is r _ _ q _ _ is (λ zs there. run_is bytes r.content r.content_bytes zs there) (λ zs there. run_is bytes r.offsets (4 * r.offset_count) zs there)

-- ---- rows

pub saturated_sum : (a b : ℕ) → saturated (saturated a + b) ≡ saturated (a + b)
saturated_sum a b = omega arith

-- the size after one more part
part_more : (p : PartPlace) (q : FilePart) (rest : List FilePart) → saturated ((step_part p (size_of_part q)).at + 4 * length (text_from (list_after p.list q.what q.word) rest)) ≡ saturated (p.at + 4 * length (text_from p.list (q ∷ rest)))
part_more p q rest =
    let text = text_from (list_after p.list q.what q.word) rest in
    let zero = closing p.list q.what in
    let same : p.at + closing_bytes p.list q.what + 4 * part_longs (size_of_part q) + 4 * length text ≡ p.at + 4 * length ((zero ++ part_text q) ++ text) =
    omega (arith, length-append (zero ++ part_text q) text, length-append zero (part_text q), part_length q, closed_length p.list q.what) in
    saturated_sum (p.at + closing_bytes p.list q.what + 4 * part_longs (size_of_part q)) (4 * length text) ∙ ap saturated same

-- The rows before number i were passed, and led to this place.
pub record PassedRows (bytes : List ℕ) (rows : List PartRow) (i : ℕ) (p : PartPlace) : Type 0 where
  pub faults : rows_fault bytes p i (drop i rows) ≡ row_fault bytes rows
  pub hunks : p.hunks ≡ (first_place rows).hunks
  pub size : saturated (p.at + 4 * length (text_from p.list (map (row_part bytes) (drop i rows)))) ≡ saturated (4 * length (rows_text bytes rows))

seen_passed : (bytes : List ℕ) (rows : List PartRow) (i : ℕ) (p : PartPlace) (r : PartRow) (s : Option FilePart) → seen bytes r ≡ s → drop i rows ≡ r ∷ drop (i + 1) rows
    → refuse_row p s ≡ None → PassedRows bytes rows i p → PassedRows bytes rows (i + 1) (step_row p s)
seen_passed bytes rows i p r None is one none passed = absurd (none-some _ (sym none))
seen_passed bytes rows i p r (Some q) is one none passed = record {
  faults =
      ap (λ (f : Option Refusal). next_fault (rows_fault bytes (step_row p (Some q)) (i + 1) (drop (i + 1) rows)) f p r i) (sym none)
      ∙ ap₂ (λ (a b : Option FilePart). next_fault (rows_fault bytes (step_row p a) (i + 1) (drop (i + 1) rows)) (refuse_row p b) p r i) (sym is) (sym is)
      ∙ ap (λ (rs : List PartRow). rows_fault bytes p i rs) (sym one) ∙ passed.faults;
  hunks = passed.hunks;
  size =
      part_more p q (map (row_part bytes) (drop (i + 1) rows))
      ∙ ap (λ (qs : List FilePart). saturated (p.at + 4 * length (text_from p.list qs))) (ap (λ (x : FilePart). x ∷ map (row_part bytes) (drop (i + 1) rows)) (sym (seen_part bytes r q is)) ∙ ap (λ (rs : List PartRow). map (row_part bytes) rs) (sym one))
      ∙ passed.size;
}

pub next_drop : (rows : List PartRow) (i : ℕ) (d : PartRow) → i < length rows → drop i rows ≡ get_or rows i d ∷ drop (i + 1) rows
next_drop rows i d inside = drop-cons rows i d inside ∙ ap (λ (k : ℕ). get_or rows i d ∷ drop k rows) (sym (add-one i))

-- One more row was passed.
pub row_passed : (bytes : List ℕ) (rows : List PartRow) (i : ℕ) (p : PartPlace) (r : PartRow) → drop i rows ≡ r ∷ drop (i + 1) rows
    → refuse_row p (seen bytes r) ≡ None → PassedRows bytes rows i p → PassedRows bytes rows (i + 1) (step_row p (seen bytes r))
row_passed bytes rows i p r one none passed = seen_passed bytes rows i p r (seen bytes r) refl one none passed

-- ---- before the first row

entry_length : (e : TableEntry) → entry_longs e.word ≡ length (entry_labelled e)
entry_length e = grind arith

table_more : (b : Bool) (n m : ℕ) (es : List FilePart) (q : FilePart) → n ≡ 4 * length (entry_labelled (hunk_entry q)) → m ≡ 4 * length (flat_map entry_labelled (map hunk_entry es))
    → (if b then n else 0) + m ≡ 4 * length (flat_map entry_labelled (map hunk_entry (if b then q ∷ es else es)))
table_more true n m es q one more = omega (arith, one, more, length-append (entry_labelled (hunk_entry q)) (flat_map entry_labelled (map hunk_entry es)))
table_more false n m es q one more = omega (arith, more)

table_length : (bytes : List ℕ) (rows : List PartRow) → table_bytes rows ≡ 4 * length (flat_map entry_labelled (map hunk_entry (filter is_hunk (map (row_part bytes) rows))))
table_length bytes [] = refl
table_length bytes (r ∷ rest) =
    table_more (is_hunk_row r) (4 * entry_longs r.word) (table_bytes rest) (filter is_hunk (map (row_part bytes) rest)) (row_part bytes r)
    (ap (λ (n : ℕ). 4 * n) (entry_length (hunk_entry (row_part bytes r)))) (table_length bytes rest)

header_more : (b : Bool) (hunks size : ℕ) (header : List ℕ) (qs : List FilePart) → size ≡ 4 * length header
    → saturated ((if b then start hunks size else start 0 0).at + 4 * length (text_from (if b then start hunks size else start 0 0).list qs)) ≡ saturated (4 * length ((if b then header else []) ++ text_from None qs))
header_more true hunks size header qs is = ap saturated (omega (arith, is, length-append header (text_from None qs)))
header_more false hunks size header qs is = ap saturated (omega arith)

first_size : (bytes : List ℕ) (rows : List PartRow) → saturated ((first_place rows).at + 4 * length (text_from (first_place rows).list (map (row_part bytes) rows))) ≡ saturated (4 * length (rows_text bytes rows))
first_size bytes [] = refl
first_size bytes (r ∷ rest) =
    let qs = map (row_part bytes) (r ∷ rest) in
    let table = map hunk_entry (filter is_hunk qs) in
    header_more (is_hunk_row r) (length (filter is_hunk_row (r ∷ rest))) (20 + table_bytes (r ∷ rest)) (words (header_labelled table)) qs
    (omega (arith, table_length bytes (r ∷ rest), length-map (header_labelled table) (λ (l : Role × ℕ). l.1)))

in_limit : (b : Bool) (x y : Option RowFault) → b ≡ false → y ≡ (if b then x else y)
in_limit true x y is = absurd (false≢true (sym is))
in_limit false x y is = refl

-- None was passed.
pub none_passed : (bytes : List ℕ) (rows : List PartRow) → (first_place rows).hunks ≤ most_hunks → PassedRows bytes rows 0 (first_place rows)
none_passed bytes rows few = record {
  faults = in_limit (nat_lt most_hunks (first_place rows).hunks) _ _ (le-ltb _ _ few);
  hunks = refl;
  size = first_size bytes rows;
}
