-- The declared bytes of a table, and of a front of it.
use Rattle.std.proofs.Common.{rules, ◌≡◌, ℕ, zero, suc, ◌+◌, ◌-◌, ◌*◌, ◌/◌, ◌^◌, ◌<◌, ◌≤◌, min, slice_index, List, [], ◌∷◌, ◌++◌, length, take, drop, get_or, Some, refl, sym, arith}
use Rattle.std.proofs.Math.Seq.{take-add}
use Rattle.std.specs.List.{slice_get, sum_by}
use Rattle.std.proofs.lemmas.List.{drop-drop, length-drop, length-map, length-take, map-append, take_min, drop_min}
use Rattle.std.proofs.lemmas.List.Sums.{sum_by-cons, sum_by-append}
use Rattle.hunk_words.specs.Bits.{size_longs}
use Rattle.hunk_files.specs.{LoadFile.TableEntry, Image.declared_bytes, declared.row.Row.Row, Tables.row_entry}
use Rattle.hunk_scatter.specs.{LoaderValues.segments_in, Rows.{AreStarts, entries_of, words_of}}

pub declared-cons : (e : TableEntry) (table : List TableEntry) → declared_bytes (e ∷ table) ≡ 4 * size_longs e.word + declared_bytes table
declared-cons e table = sum_by-cons (λ (x : TableEntry). 4 * size_longs x.word) e table

pub declared-append : (a b : List TableEntry) → declared_bytes (a ++ b) ≡ declared_bytes a + declared_bytes b
declared-append a b = sum_by-append (λ (x : TableEntry). 4 * size_longs x.word) a b

-- each entry declares less than 2 ^ 32 bytes
pub declared_limit : (table : List TableEntry) → declared_bytes table ≤ 2 ^ 32 * length table
declared_limit [] = omega arith
declared_limit (e ∷ table) = omega (arith, declared-cons e table, declared_limit table)

-- ---- of rows

pub declared_take : (rows : List Row) (i : ℕ) (d : Row) → i < length rows →
    declared_bytes (entries_of (take (suc i) rows)) ≡ declared_bytes (entries_of (take i rows)) + 4 * size_longs (get_or rows i d).word
declared_take [] i d h = absurd (omega arith)
declared_take (r ∷ rows) zero d h = omega (arith, declared-cons (row_entry r) [])
declared_take (r ∷ rows) (suc i) d h = omega (arith, declared-cons, declared_take rows i d (omega arith))

pub declared_front : (rows : List Row) (i : ℕ) → declared_bytes (entries_of (take i rows)) ≤ declared_bytes (entries_of rows)
declared_front rows zero = omega arith
declared_front [] (suc i) = omega arith
declared_front (r ∷ rows) (suc i) = omega (arith, declared-cons, declared_front rows i)

-- The segment of a hunk begins after those before it.
pub cut_at : (rows : List Row) (store : List ℕ) (i : ℕ) (d : Row) → i < length rows →
    slice_get (segments_in (words_of rows) store) i ≡ Some (take (4 * size_longs (get_or rows i d).word) (drop (declared_bytes (entries_of (take i rows))) store))
cut_at [] store i d h = absurd (omega arith)
cut_at (r ∷ rows) store zero d h = refl
cut_at (r ∷ rows) store (suc i) d h = search (rules, drop-drop, sum_by-cons, cut_at rows (drop (4 * size_longs r.word) store) i d (omega arith))

-- The segment of a hunk lies in the store.
pub segment_within : (rows : List Row) (i start size : ℕ) (d : Row) → i < length rows → start ≡ declared_bytes (entries_of (take i rows)) → size ≡ 4 * size_longs (get_or rows i d).word →
    start + size ≤ declared_bytes (entries_of rows)
segment_within rows i start size d h e f = omega (arith, e, f, declared_take rows i d h, declared_front rows (suc i))

pub table_fits : (rows : List Row) → length rows ≤ 65536 → declared_bytes (entries_of rows) < 2 ^ 49
table_fits rows few = omega (arith, declared_limit (entries_of rows), length-map rows row_entry)

-- the rows in front, and this many after them
pub declared_range : (rows : List Row) (a n : ℕ) → declared_bytes (entries_of (take (a + n) rows)) ≡ declared_bytes (entries_of (take a rows)) + declared_bytes (entries_of (take n (drop a rows)))
declared_range rows a n = search (rules, take-add, map-append, sum_by-append)

-- Where the next segments begin, after this many rows more at most.
pub next_rows : (rows rest front after : List Row) (a b m n total more : ℕ) → rest ≡ drop a rows → m ≡ min n (length rest) → front ≡ take m rest → after ≡ drop m rest → a + n ≡ b →
    total ≡ declared_bytes (entries_of (take a rows)) → more ≡ declared_bytes (entries_of front) → (after ≡ drop b rows) × (total + more ≡ declared_bytes (entries_of (take b rows)))
next_rows rows rest front after a b m n total more e f g h s t u = search (rules, take_min, drop_min, drop-drop, declared_range)

-- Where a segment begins, by the next start of the index before it.
pub start_at : (rows : List Row) (starts : List ℕ) (i first more : ℕ) → AreStarts rows starts → i < 65536 → first ≡ 2048 * (i / 2048) →
    more ≡ declared_bytes (entries_of (take (i - first) (drop first rows))) → slice_index starts (i / 2048) + more ≡ declared_bytes (entries_of (take i rows))
start_at rows starts i first more h few e u = search (rules, declared_range)

-- the segments have the bytes of the store together
pub cut_total : (rows : List Row) (store : List ℕ) → length store ≡ declared_bytes (entries_of rows) → sum_by length (segments_in (words_of rows) store) ≡ length store
cut_total [] store e = sym e
cut_total (r ∷ rows) store e =
    let size = 4 * size_longs r.word in
    let first = declared-cons (row_entry r) (entries_of rows) in
    let rest = cut_total rows (drop size store) (omega (arith, e, first, length-drop size store)) in
    omega (arith, e, first, rest, length-drop size store, length-take size store, sum_by-cons length (take size store) (segments_in (words_of rows) (drop size store)))
