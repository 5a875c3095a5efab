-- How much is to come of a header.
use Rattle.std.proofs.Common.{rules, ◌≡◌, ℕ, ◌+◌, ◌*◌, ◌%◌, ◌<◌, ◌≤◌, Bool, true, false, List, ◌++◌, length, get_or, refl, sym, ap, subst, ◌∙◌, arith, length-append}
use Rattle.hunk_words.specs.Longs.{bytes_of, longs}
use Rattle.hunk_words.proofs.LongLaws.{length-bytes_of}
use Rattle.hunk_grammar.specs.{Positions.{is_after_header, least_longs}, declared.position.Position.Position}
use Rattle.hunk_blocks.specs.Faults.{words}
use Rattle.hunk_files.specs.{FileSteps.Next, ReaderPosition.{position_of, table_of}, WordsRead.HasRead, declared.row.Row.Row}
use Rattle.hunk_files.proofs.{walk.FileProgress.{NextFits, read}, walk.Reading.reads}
use Rattle.hunk_scatter.specs.{declared.header_state.HeaderState.HeaderState, HeaderLoaderFields.{OpensFirst, HeaderReading}}
use Rattle.hunk_scatter.specs.HeaderOwing.{rows_owed, HasRowsToCome, HasHeaderToCome, HeaderOwes}
use Rattle.hunk_scatter.proofs.{HeaderFields.heading_least, HeaderLeast.{header_least, least_is, header_ends}}
use Rattle.hunk_scatter.proofs.{HeaderTexts.{header_done, rows_read}, Outcomes.longs_are}

-- the hunks declared are rows that are whole, and longwords that are owed
hunks_declared : (n : Next) → NextFits n → is_after_header (position_of n) ≡ false → get_or (words (read n)) 2 0 ≤ length (table_of n) + header_least n
hunks_declared n f e = search rules

-- Each row owed is a longword owed.
rows_least : (n : Next) (ws : List ℕ) → HasRead ws n → OpensFirst n → rows_owed ws ≤ header_least n
rows_least n ws h o = by_end (is_after_header (position_of n)) refl
  where
    by_end : (b : Bool) → is_after_header (position_of n) ≡ b → rows_owed ws ≤ header_least n
    by_end true e =
        let d = header_done ws (table_of n) (subst (λ (m : Next). HasRead ws m) (o e) h) in
        omega (arith, ap (λ (xs : List ℕ). get_or xs 2 0) d.1, ap length (rows_read n ws h o))
    by_end false e =
        omega (
          arith,
          hunks_declared n (reads h).0 e,
          ap (λ (xs : List ℕ). get_or xs 2 0) (sym h.all ∙ ap words (sym (reads h).1)),
          ap length (rows_read n ws h o),
        )

-- After the header no longword of it is owed.
none_owed : (n : Next) → is_after_header (position_of n) ≡ true → header_least n ≡ 0
none_owed n e = search rules

-- A longword of a header that is not whole is owed.
pub least_some : (p : Position) → is_after_header p ≡ false → 0 < least_longs p
least_some p e = search rules

module _ (budget : ℕ) (rows : List Row) (s : HeaderState) (pending fed : List ℕ) (r : HeaderReading budget rows s pending fed) where
  words_are : longs fed ≡ r.ws
  words_are = longs_are r.ws r.has_read.next pending fed r.has_read.read r.few r.spelled

  pending_is : length pending ≡ length fed % 4
  pending_is = omega (arith, r.few, ap length r.spelled, length-append (bytes_of r.ws) pending, length-bytes_of r.ws)

  rows_owed_least : rows_owed (longs fed) ≤ header_least r.has_read.next
  rows_owed_least = search (rules, words_are, rows_least)

  owed_least : (p : ℕ) (h : HasHeaderToCome fed p) → h.owed ≤ header_least r.has_read.next
  owed_least p h =
      let e = header_ends r.has_read.next r.ws r.has_read.read r.has_read.opens_first in
      let fits = h.least e.table e.more e.is_table (e.begins ∙ ap (λ (ws : List ℕ). ws ++ e.more) (sym words_are)) in
      omega (arith, fits, e.count)

  module _ (p : ℕ) (more : is_after_header s.position ≡ false) where
    bytes_least : (owed : ℕ) → owed ≤ header_least r.has_read.next → p + length fed % 4 ≡ 4 * owed → p + length pending ≤ 4 * least_longs s.position
    bytes_least owed least count =
        omega (
          arith,
          least,
          count,
          pending_is,
          least_is r.has_read.next (ap is_after_header r.has_read.position_is ∙ more),
          ap least_longs r.has_read.position_is,
        )

    -- What is to come is owed.
    pub rows_to_come : HasRowsToCome fed p → p + length pending ≤ 4 * least_longs s.position
    rows_to_come h = bytes_least (rows_owed (longs fed)) rows_owed_least h

    pub header_to_come : HasHeaderToCome fed p → p + length pending ≤ 4 * least_longs s.position
    header_to_come h = bytes_least h.owed (owed_least p h) h.count

  module _ (p : ℕ) (done : is_after_header s.position ≡ true) where
    none_least : header_least r.has_read.next ≡ 0
    none_least = none_owed r.has_read.next (ap is_after_header r.has_read.position_is ∙ done)

    -- At the end nothing is.
    pub no_rows_to_come : HasRowsToCome fed p → p ≡ 0
    no_rows_to_come h = omega (arith, h, rows_owed_least, none_least)

    pub no_header_to_come : HasHeaderToCome fed p → p ≡ 0
    no_header_to_come h = omega (arith, h.count, owed_least p h, none_least)

  -- And no more is owed.
  module _ (owed : ℕ) (more : is_after_header s.position ≡ false) (is : owed + length pending ≡ 4 * least_longs s.position) where
    pub owes_header : HeaderOwes fed owed
    owes_header =
        let e = header_ends r.has_read.next r.ws r.has_read.read r.has_read.opens_first in
        let least : header_least r.has_read.next ≡ least_longs s.position =
        least_is r.has_read.next (ap is_after_header r.has_read.position_is ∙ more) ∙ ap least_longs r.has_read.position_is in
        record {
          some = omega (arith, is, r.few, least_some s.position more);
          least = λ t rest is_table split. omega (arith, is, heading_least budget rows s pending fed r more t rest is_table split);
          table = e.table;
          is_table = e.is_table;
          more = e.more;
          begins = e.begins ∙ ap (λ (ws : List ℕ). ws ++ e.more) (sym words_are);
          ends = omega (arith, is, pending_is, e.count, least);
        }
