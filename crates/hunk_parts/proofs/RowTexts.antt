-- The text of rows, row by row.
use Rattle.std.proofs.Common.{◌≡◌, ◌<◌, ◌+◌, ◌∷◌, ◌++◌, ℕ, Bool, true, false, List, [], length, map, drop, get_or, arith, ap, ◌∙◌, refl, sym, subst, if◌then◌else◌, Option, Some, None, IsTrue}
use Rattle.std.specs.List.{AllByRecursion, filter, flat_map}
use Rattle.std.specs.Prelude.{is_some, nat_lt}
use Rattle.std.proofs.lemmas.List.{map-append}
use Rattle.std.proofs.lemmas.Option.{none-some}
use Rattle.hunk_words.specs.Limits.{most_hunks}
use Rattle.hunk_words.specs.declared.block_word.Kind.{Kind}
use Rattle.hunk_grammar.specs.Roles.{Role}
use Rattle.hunk_blocks.specs.Faults.{words}
use Rattle.hunk_files.specs.LoadFile.{TableEntry}
use Rattle.hunk_files.specs.LoadText.{entry_labelled, header_labelled}
use Rattle.hunk_files.specs.Tables.{entry_text}
use Rattle.hunk_parts.specs.PartFaults.{PartPlace, Refusal, RowFault, first_place, is_hunk_row, list_after, next_fault, refuse_row, row_fault, rows_fault, start, step_row, table_bytes, too_many_hunks}
use Rattle.hunk_parts.specs.Parts.{FilePart, seen}
use Rattle.hunk_parts.specs.RowsText.{closing, header_of, hunk_entry, is_hunk, part_text, row_entry, row_part, rows_table, text_from}
use Rattle.hunk_parts.specs.declared.part_row.PartRow.{PartRow}
use Rattle.hunk_parts.proofs.RowSizes.{next_drop}

-- what the code has for a row that is not there
abbrev pub no_row : PartRow
no_row = record { what = 0; word = 0; value = 0; reserved = 0; content = 0; content_bytes = 0; offsets = 0; offset_count = 0 }

-- ---- the table

table_first : (b : Bool) (r : PartRow) (rs : List PartRow) →
    words (flat_map entry_labelled (map row_entry (if b then r ∷ rs else rs))) ≡ (if b then entry_text (row_entry r) else []) ++ words (flat_map entry_labelled (map row_entry rs))
table_first true r rs = map-append (λ (l : Role × ℕ). l.1) (entry_labelled (row_entry r)) (flat_map entry_labelled (map row_entry rs))
table_first false r rs = refl

pub table_row : (rows : List PartRow) (i : ℕ) (d : PartRow) → i < length rows →
    words (flat_map entry_labelled (rows_table (drop i rows))) ≡ (if is_hunk_row (get_or rows i d) then entry_text (row_entry (get_or rows i d)) else []) ++ words (flat_map entry_labelled (rows_table (drop (i + 1) rows)))
table_row rows i d inside =
    ap (λ (rs : List PartRow). words (flat_map entry_labelled (rows_table rs))) (next_drop rows i d inside) ∙ table_first (is_hunk_row (get_or rows i d)) (get_or rows i d) (filter is_hunk_row (drop (i + 1) rows))

-- ---- the header

entry_first : (b : Bool) (q : FilePart) (r : PartRow) (qs : List FilePart) (rs : List PartRow) → hunk_entry q ≡ row_entry r → map hunk_entry qs ≡ map row_entry rs → map hunk_entry (if b then q ∷ qs else qs) ≡ map row_entry (if b then r ∷ rs else rs)
entry_first true q r qs rs one more = ap (λ (e : TableEntry). e ∷ map hunk_entry qs) one ∙ ap (λ (es : List TableEntry). row_entry r ∷ es) more
entry_first false q r qs rs one more = more

table_seen : (bytes : List ℕ) (rows : List PartRow) → map hunk_entry (filter is_hunk (map (row_part bytes) rows)) ≡ rows_table rows
table_seen bytes [] = refl
table_seen bytes (r ∷ rest) = entry_first (is_hunk_row r) (row_part bytes r) r (filter is_hunk (map (row_part bytes) rest)) (filter is_hunk_row rest) refl (table_seen bytes rest)

begun : (b : Bool) (n : ℕ) (size : ℕ) (xs : List ℕ) → 0 < (if b then start n size else start 0 0).hunks → ((if b then xs else []) ≡ xs) × ((if b then start n size else start 0 0).hunks ≡ n)
begun true n size xs some = (refl, refl)
begun false n size xs some = absurd (omega (arith, some))

not_begun : (b : Bool) (n : ℕ) (size : ℕ) (xs : List ℕ) → (b ≡ true → 0 < n) → (if b then start n size else start 0 0).hunks ≡ 0 → (if b then xs else []) ≡ []
not_begun true n size xs some none = absurd (omega (arith, some refl, none))
not_begun false n size xs some none = refl

first_counts : (b : Bool) (r : PartRow) (rs : List PartRow) → b ≡ true → 0 < length (if b then r ∷ rs else rs)
first_counts true r rs is = omega arith
first_counts false r rs is = absurd cc

pub header_begun : (bytes : List ℕ) (rows : List PartRow) → 0 < (first_place rows).hunks → (words (header_labelled (rows_table rows)) ≡ header_of (map (row_part bytes) rows)) × ((first_place rows).hunks ≡ length (filter is_hunk_row rows))
header_begun bytes [] some = absurd (omega (arith, some))
header_begun bytes (r ∷ rest) some =
    let qs = map (row_part bytes) (r ∷ rest) in
    let b = begun (is_hunk_row r) (length (filter is_hunk_row (r ∷ rest))) (20 + table_bytes (r ∷ rest)) (words (header_labelled (map hunk_entry (filter is_hunk qs)))) some in
    (sym (b.0 ∙ ap (λ (t : List TableEntry). words (header_labelled t)) (table_seen bytes (r ∷ rest))), b.1)

pub header_none : (bytes : List ℕ) (rows : List PartRow) → (first_place rows).hunks ≡ 0 → header_of (map (row_part bytes) rows) ≡ []
header_none bytes [] none = refl
header_none bytes (r ∷ rest) none =
    not_begun (is_hunk_row r) (length (filter is_hunk_row (r ∷ rest))) (20 + table_bytes (r ∷ rest)) _ (first_counts (is_hunk_row r) r (filter is_hunk_row rest)) none

-- ---- the body

pub body_row : (bytes : List ℕ) (list : Option Kind) (rows : List PartRow) (i : ℕ) (d : PartRow) → i < length rows →
    text_from list (map (row_part bytes) (drop i rows))
    ≡ (closing list (get_or rows i d).what ++ part_text (row_part bytes (get_or rows i d))) ++ text_from (list_after list (get_or rows i d).what (get_or rows i d).word) (map (row_part bytes) (drop (i + 1) rows))
body_row bytes list rows i d inside = ap (λ (rs : List PartRow). text_from list (map (row_part bytes) rs)) (next_drop rows i d inside)

pub seen_row : (bytes : List ℕ) (rows : List PartRow) (i : ℕ) (d : PartRow) → i < length rows → AllByRecursion (λ r. IsTrue (is_some (seen bytes r))) (drop i rows) → IsTrue (is_some (seen bytes (get_or rows i d))) × AllByRecursion (λ r. IsTrue (is_some (seen bytes r))) (drop (i + 1) rows)
seen_row bytes rows i d inside all = subst (λ (rs : List PartRow). AllByRecursion (λ r. IsTrue (is_some (seen bytes r))) rs) (next_drop rows i d inside) all

-- ---- rows without a fault are seen

passed_row : (p : PartPlace) (s : Option FilePart) → refuse_row p s ≡ None → IsTrue (is_some s)
passed_row p None none = absurd (none-some _ (sym none))
passed_row p (Some q) none = refl

both_none : (rest : Option RowFault) (f : Option Refusal) (p : PartPlace) (r : PartRow) (n : ℕ) → next_fault rest f p r n ≡ None → (f ≡ None) × (rest ≡ None)
both_none rest None p r n none = (refl, none)
both_none rest (Some f) p r n none = absurd (none-some _ (sym none))

seen_from : (bytes : List ℕ) (p : PartPlace) (n : ℕ) (rows : List PartRow) → rows_fault bytes p n rows ≡ None → AllByRecursion (λ r. IsTrue (is_some (seen bytes r))) rows
seen_from bytes p n [] none = tt
seen_from bytes p n (r ∷ rest) none =
    let both = both_none (rows_fault bytes (step_row p (seen bytes r)) (n + 1) rest) (refuse_row p (seen bytes r)) p r n none in
    (passed_row p (seen bytes r) both.0, seen_from bytes (step_row p (seen bytes r)) (n + 1) rest both.1)

few : (b : Bool) (x : RowFault) (y : Option RowFault) → (if b then Some x else y) ≡ None → y ≡ None
few true x y none = absurd (none-some _ (sym none))
few false x y none = none

pub all_seen : (bytes : List ℕ) (rows : List PartRow) → row_fault bytes rows ≡ None → AllByRecursion (λ r. IsTrue (is_some (seen bytes r))) rows
all_seen bytes rows none = seen_from bytes (first_place rows) 0 rows (few (nat_lt most_hunks (first_place rows).hunks) (too_many_hunks rows) _ none)
