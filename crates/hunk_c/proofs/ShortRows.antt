-- Rows of one longword, by where the first and the last of them stand.
use Rattle.std.proofs.Common.{rules, ◌≡◌, ℕ, zero, suc, ◌+◌, ◌-◌, ◌*◌, ◌<◌, ◌≤◌, List, length, drop, drop-cons, get_or, refl, ap, subst, arith, if◌then◌else◌}
use Rattle.std.proofs.lemmas.List.{length-append, length-drop}
use Rattle.hunk_words.specs.{Bits.{entry_longs, has_both_bits}, Longs.longs}
use Rattle.hunk_blocks.specs.Faults.{words}
use Rattle.hunk_files.specs.{LoadFile.TableEntry, LoadText.entry_labelled}
use Rattle.hunk_files.proofs.cuts.TableReading.{entries_more, entries_words}
use Rattle.hunk_scatter.specs.HeaderBytes.{BeginsWithHeader}
use Rattle.hunk_c.specs.declared.packed.Mark.{Mark}
use Rattle.hunk_c.specs.Packs.{ArePacked, AreShortFrom, HasShortRows, RowStandsAt, hunks_a_mark, no_mark}
use Rattle.hunk_c.proofs.TableRows.{no_entry, stands_next}

abbrev rows_longs : List TableEntry → ℕ
rows_longs t = length (entries_words t)

some : (e : TableEntry) → 0 < length (words (entry_labelled e))
some e = search rules

one_row : (t : List TableEntry) (n : ℕ) → n < length t → rows_longs (drop (suc n) t) < rows_longs (drop n t)
one_row t n less =
    omega (
      arith,
      ap rows_longs (drop-cons t n no_entry less),
      ap length (entries_more (get_or t n no_entry) (drop (suc n) t)),
      length-append (words (entry_labelled (get_or t n no_entry))) (entries_words (drop (suc n) t)),
      some (get_or t n no_entry),
    )

rows_grow : (t : List TableEntry) (i k : ℕ) → i + k ≤ length t → rows_longs (drop (i + k) t) + k ≤ rows_longs (drop i t)
rows_grow t i zero few = omega (arith, ap (λ (n : ℕ). rows_longs (drop n t)) (let e : i + 0 ≡ i = omega arith in e))
rows_grow t i (suc k) few =
    omega (arith, rows_grow t i k (omega (arith, few)), one_row t (i + k) (omega (arith, few)), ap (λ (n : ℕ). rows_longs (drop n t)) (let e : i + suc k ≡ suc (i + k) = omega arith in e))

module _ (bytes : List ℕ) (t : List TableEntry) (h : BeginsWithHeader bytes t) where
  stands_end : (i at : ℕ) → RowStandsAt bytes t h i at → i < length t → at + rows_longs (drop i t) + length (longs h.rest) ≡ length (longs bytes)
  stands_end i at s less = omega (arith, ap length s, length-drop at (longs bytes), length-append (entries_words (drop i t)) (longs h.rest), one_row t i less)

  -- A row stands at one longword alone.
  pub stands_once : (i at at2 : ℕ) → RowStandsAt bytes t h i at → RowStandsAt bytes t h i at2 → i < length t → at ≡ at2
  stands_once i at at2 s s2 less = omega (arith, stands_end i at s less, stands_end i at2 s2 less)

  module _ (first at rows : ℕ) (s : RowStandsAt bytes t h first at) (last : RowStandsAt bytes t h (first + rows) (at + rows)) (inside : first + rows < length t) where
    next_is : (k longs_of : ℕ) → k < rows → RowStandsAt bytes t h (first + k) (at + k) → 1 ≤ longs_of → RowStandsAt bytes t h (first + k + 1) (at + k + longs_of) → RowStandsAt bytes t h (first + suc k) (at + suc k)
    next_is k n less here some_longs r =
        let one : at + k + n ≡ at + suc k =
        omega (
          arith,
          some_longs,
          less,
          stands_end (first + k + 1) (at + k + n) r (omega (arith, less, inside)),
          stands_end (first + rows) (at + rows) last inside,
          rows_grow t (first + k + 1) (rows - k - 1) (omega (arith, less, inside)),
          ap (λ (m : ℕ). rows_longs (drop m t)) (let e : first + k + 1 + (rows - k - 1) ≡ first + rows = omega (arith, less) in e),
        ) in
        let row : first + k + 1 ≡ first + suc k = omega arith in
        subst (λ (m : ℕ). RowStandsAt bytes t h (first + suc k) m) one (subst (λ (m : ℕ). RowStandsAt bytes t h m (at + k + n)) row r)

    pub stands_between : (k : ℕ) → k ≤ rows → RowStandsAt bytes t h (first + k) (at + k)
    stands_between zero few =
        let row : first ≡ first + 0 = omega arith in
        let place : at ≡ at + 0 = omega arith in
        subst (λ (m : ℕ). RowStandsAt bytes t h (first + 0) m) place (subst (λ (m : ℕ). RowStandsAt bytes t h m at) row s)
    stands_between (suc k) few =
        let here = stands_between k (omega (arith, few)) in
        let word = get_or (longs bytes) (at + k) 0 in
        let extra = if has_both_bits word then get_or (longs bytes) (at + k + 1) 0 else 0 in
        next_is k (entry_longs word) (omega (arith, few)) here (longs_some word) (stands_next bytes t h (first + k) (at + k) here (omega (arith, few, inside)) word extra refl refl)
      where
        longs_some : (w : ℕ) → 1 ≤ entry_longs w
        longs_some w = grind arith

-- ---- from a mark on

module _ (bytes : List ℕ) (hunks start : ℕ) (marks : List Mark) (p : ArePacked bytes hunks start marks) (number : ℕ) (less : hunks_a_mark * number < hunks) where
  abbrev from : ℕ
  from = (get_or marks number no_mark).longword

  pub short_table : HasShortRows bytes → AreShortFrom p number
  short_table short k few inside =
      let stands : RowStandsAt bytes p.table p.header (hunks_a_mark * number) (5 + hunks_a_mark * number) = short p.table p.header (hunks_a_mark * number) (omega (arith, less, p.hunks_are)) in
      let same : from ≡ 5 + hunks_a_mark * number = stands_once bytes p.table p.header (hunks_a_mark * number) from (5 + hunks_a_mark * number) (p.are_marks number less).stands stands (omega (arith, less, p.hunks_are)) in
      let place : 5 + (hunks_a_mark * number + k) ≡ from + k = omega (arith, same) in
      subst (λ (m : ℕ). RowStandsAt bytes p.table p.header (hunks_a_mark * number + k) m) place (short p.table p.header (hunks_a_mark * number + k) (omega (arith, inside, p.hunks_are)))

  pub short_to_next : hunks_a_mark * (number + 1) < hunks → (get_or marks (number + 1) no_mark).longword ≡ from + hunks_a_mark → AreShortFrom p number
  short_to_next more same k few inside =
      let row : hunks_a_mark * (number + 1) ≡ hunks_a_mark * number + hunks_a_mark = omega arith in
      stands_between bytes p.table p.header (hunks_a_mark * number) from hunks_a_mark (p.are_marks number less).stands
      (subst (λ (m : ℕ). RowStandsAt bytes p.table p.header (hunks_a_mark * number + hunks_a_mark) m) same (subst (λ (i : ℕ). RowStandsAt bytes p.table p.header i (get_or marks (number + 1) no_mark).longword) row (p.are_marks (number + 1) more).stands))
      (omega (arith, more, p.hunks_are)) k (omega (arith, few))
