-- What the rows of a table come to: the bytes of its header, and those that it declares.
use Rattle.std.proofs.Common.{rules, ◌≡◌, ℕ, zero, suc, ◌+◌, ◌*◌, ◌^◌, ◌<◌, ◌≤◌, Bool, true, false, List, [], ◌∷◌, length, take, get_or, refl, sym, ap, subst, ◌∙◌, arith}
use Rattle.std.specs.{Prelude.if◌then◌else◌, List.{All, AllByRecursion, flat_map, sum_by}}
use Rattle.std.proofs.lemmas.List.{length-append, length-map, take_all}
use Rattle.std.proofs.lemmas.List.Elements.{All-more, All-map, recursion_from_All}
use Rattle.std.proofs.lemmas.List.Sums.{sum_by-cons, sum_by_more}
use Rattle.hunk_words.specs.{Bits.{entry_longs, has_both_bits, size_longs}, Limits.most_hunks}
use Rattle.hunk_words.proofs.LongLaws.{length-bytes_of}
use Rattle.hunk_grammar.specs.Roles.{Role, Role as roles}
use Rattle.hunk_files.specs.{Image.declared_bytes, LoadFile.IsTableEntry, LoadText.{entry_labelled, header_labelled}}
use Rattle.hunk_files.specs.{declared.row.Row.Row, Tables.row_entry}
use Rattle.hunk_scatter.specs.{HeaderBytes.{IsHeaderTable, header_bytes, header_words}, Rows.entries_of}
use Rattle.hunk_scatter.proofs.DeclaredBytes.{declared_take}
use Rattle.hunk_c.specs.Streams.{HasSizes}

-- ---- a header

entry_length : (b : Bool) (w x : ℕ) → 4 * length {A = Role × ℕ} ((roles.SizeWord, w) ∷ (if b then (roles.Attributes, x) ∷ [] else [])) ≡ 4 * (if b then 2 else 1)
entry_length true w x = refl
entry_length false w x = refl

-- the bytes of the row's entry in a header
abbrev row_bytes : Row → ℕ
row_bytes r = 4 * entry_longs r.word

entries_length : (rows : List Row) → 4 * length (flat_map entry_labelled (entries_of rows)) ≡ sum_by row_bytes rows
entries_length [] = refl
entries_length (r ∷ rows) =
    omega (
      arith,
      length-append (entry_labelled (row_entry r)) (flat_map entry_labelled (entries_of rows)),
      entry_length (has_both_bits r.word) r.word r.extra,
      sum_by-cons row_bytes r rows,
      entries_length rows,
    )

header_length : (rows : List Row) → length (header_bytes (entries_of rows)) ≡ 20 + sum_by row_bytes rows
header_length rows =
    omega (
      arith,
      length-bytes_of (header_words (entries_of rows)),
      length-map (header_labelled (entries_of rows)) (λ (x : Role × ℕ). x.1),
      entries_length rows,
    )

-- ---- the first rows

abbrev IsEntry : Row → Type 0
IsEntry r = IsTableEntry (row_entry r)

-- This many rows are entries, and come to this many bytes in a header and this many that they declare.
pub record AreSummed (rows : List Row) (i header bytes : ℕ) : Type 0 where
  pub each : All IsEntry (take i rows)
  pub header_is : header ≡ 20 + sum_by row_bytes (take i rows)
  pub header_room : header ≤ 20 + 8 * i
  pub bytes_are : bytes ≡ declared_bytes (entries_of (take i rows))
  pub bytes_room : bytes ≤ 2 ^ 32 * i

entry_room : (word : ℕ) → 4 * entry_longs word ≤ 8
entry_room word = search rules

pub summed_more : (rows : List Row) (i header bytes size more : ℕ) (d r : Row) → i < length rows → r ≡ get_or rows i d → IsTableEntry (row_entry r) → size ≡ 4 * entry_longs r.word →
    more ≡ 4 * size_longs r.word → AreSummed rows i header bytes → AreSummed rows (i + 1) (header + size) (bytes + more)
summed_more rows i header bytes size more d r inside is entry size_is more_is s =
    let next : suc i ≡ i + 1 = omega arith in
    record {
      each = All-more IsEntry rows i d inside s.each (subst IsEntry is entry);
      header_is = omega (arith, s.header_is, sum_by_more row_bytes rows i d inside, ap row_bytes is, size_is);
      header_room = omega (arith, s.header_room, size_is, entry_room r.word);
      bytes_are =
          omega (
            arith,
            s.bytes_are,
            declared_take rows i d inside,
            ap (λ (n : ℕ). declared_bytes (entries_of (take n rows))) next,
            ap (λ (x : Row). 4 * size_longs x.word) is,
            more_is,
          );
      bytes_room = omega (arith, s.bytes_room, more_is);
    }

pub summed_all : (rows : List Row) (i header bytes : ℕ) → i ≡ length rows → 0 < length rows → length rows ≤ most_hunks → AreSummed rows i header bytes → HasSizes (entries_of rows) header bytes
summed_all rows i header bytes e some most s =
    let whole : take i rows ≡ rows = take_all i rows (omega (arith, e)) in
    record {
      is_table = record {
        some = omega (arith, some, length-map rows row_entry);
        most = omega (arith, most, length-map rows row_entry);
        each = recursion_from_All IsTableEntry (entries_of rows) (All-map IsTableEntry row_entry rows (subst (All IsEntry) whole s.each));
      };
      header_is = omega (arith, s.header_is, ap (sum_by row_bytes) whole, header_length rows);
      bytes_are = s.bytes_are ∙ ap (λ (rs : List Row). declared_bytes (entries_of rs)) whole;
    }

-- ---- a row that is none

entry_at : (rows : List Row) (i : ℕ) (d : Row) → i < length rows → AllByRecursion IsTableEntry (entries_of rows) → IsEntry (get_or rows i d)
entry_at [] i d inside all = absurd (omega arith)
entry_at (r ∷ rows) zero d inside all = all.0
entry_at (r ∷ rows) (suc i) d inside all = entry_at rows i d (omega arith) all.1

pub no_table : (rows : List Row) (i : ℕ) (d r : Row) → i < length rows → r ≡ get_or rows i d → (IsTableEntry (row_entry r) → ⊥) → IsHeaderTable (entries_of rows) → ⊥
no_table rows i d r inside is none t = none (subst IsEntry (sym is) (entry_at rows i d inside t.each))
