-- The longwords of headers: what they spell, and that a reader of load files takes them.
use Rattle.std.proofs.Common.{rules, ◌≡◌, ℕ, ◌+◌, ◌*◌, ◌≤◌, Bool, true, false, List, [], ◌∷◌, ◌++◌, length, refl, sym, ap, subst, ◌∙◌, append_assoc, append-nil, arith}
use Rattle.std.specs.List.{AllByRecursion, flat_map}
use Rattle.hunk_words.specs.{Limits.most_hunks, Bits.has_both_bits}
use Rattle.hunk_blocks.proofs.{FaultLaws.words-append, Lists.passes_then}
use Rattle.hunk_grammar.specs.{Positions.is_after_header, Roles.{Role as roles}}
use Rattle.hunk_blocks.specs.Faults.{words}
use Rattle.hunk_files.specs.{LoadFile.{TableEntry, IsTableEntry}, LoadText.{entry_labelled, header_labelled}}
use Rattle.hunk_files.specs.FileSteps.{table_entry, AtSizeWord, AtAttributes, AtBlock, InBody, Next, More, Finished, open_hunk}
use Rattle.hunk_files.specs.{ReaderPosition.{position_of, table_of}, WordsRead.{Labelled, HasRead}}
use Rattle.hunk_files.proofs.{walk.Accepted.header_accepted, walk.FileProgress.{header_so_far, NextFits, read}, walk.FileText.header_leads, walk.Reading.reads}
use Rattle.hunk_scatter.specs.{HeaderBytes.{IsHeaderTable, header_words, entries_in, entries_so_far}, HeaderLoaderFields.OpensFirst}

-- ---- a header is read

-- The header of a table leads to its first hunk.
pub header_read : (t : List TableEntry) → IsHeaderTable t → HasRead (header_words t) (open_hunk (length t) [] t)
header_read t h = record { done = header_labelled t; leads = header_leads t h.each; accepted = header_accepted t h.some h.most h.each; all = refl }

-- ---- a header that was read

module _ (ws : List ℕ) where
  pub header_done : (t : List TableEntry) → HasRead ws (open_hunk (length t) [] t) → IsHeaderTable t × (ws ≡ header_words t)
  header_done [] h = let some = (reads h).0.some in absurd (omega (arith, some))
  header_done (e ∷ t) h = (
    record { some = (reads h).0.front_fits.hunks_fit.0; most = (reads h).0.front_fits.hunks_fit.1; each = (reads h).0.front_fits.ahead_fit },
    sym h.all
        ∙ ap words (sym (reads h).1)
        ∙ ap words (append-nil (header_so_far (length (e ∷ t)) (e ∷ t) ++ []) ∙ append-nil (header_so_far (length (e ∷ t)) (e ∷ t))),
  )

-- ---- the entries

-- None is of more than two longwords.
pub entries_most : (ws : List ℕ) → length ws ≤ 2 * length (entries_in ws) + 1
entries_most [] = omega arith
entries_most (w ∷ []) = omega arith
entries_most (w ∷ x ∷ ws) = grind (arith, entries_most ws, entries_most (x ∷ ws))

entry_first : (e : TableEntry) → IsTableEntry e → (ws : List ℕ) → entries_in (words (entry_labelled e) ++ ws) ≡ e ∷ entries_in ws
entry_first e h ws = search rules

-- The longwords of a table spell its entries.
pub entries-table : (t : List TableEntry) → AllByRecursion IsTableEntry t → (ls : Labelled) → entries_in (words (flat_map entry_labelled t ++ ls)) ≡ t ++ entries_in (words ls)
entries-table [] h ls = refl
entries-table (e ∷ t) h ls = search (rules, append_assoc, words-append, entry_first, entries-table t h.1 ls)

entries_all : (t : List TableEntry) → AllByRecursion IsTableEntry t → entries_in (words (flat_map entry_labelled t)) ≡ t
entries_all t h = ap (λ (xs : Labelled). entries_in (words xs)) (sym (append-nil (flat_map entry_labelled t))) ∙ entries-table t h [] ∙ append-nil t

-- The rows are those that were read.
pub rows_read : (n : Next) (ws : List ℕ) → HasRead ws n → OpensFirst n → entries_so_far ws ≡ table_of n
rows_read n ws h o = by_end (is_after_header (position_of n)) refl
  where
    so_far : (m : Next) → NextFits m → is_after_header (position_of m) ≡ false → entries_so_far (words (read m)) ≡ table_of m
    so_far (More (AtSizeWord hunks done owed)) f e = entries_all done f.rows_fit
    so_far (More (AtAttributes hunks done word owed)) f e =
        entries-table done f.0.rows_fit ((roles.SizeWord, word) ∷ [])
        ∙ ap (λ (xs : List TableEntry). done ++ xs) (passes_then (has_both_bits word) [] (table_entry word 0 ∷ []) f.2)
        ∙ append-nil done
    so_far (More (AtBlock p)) f e = absurd cc
    so_far (More (InBody p word x)) f e = absurd cc
    so_far (Finished v) f e = absurd cc
    so_far _ f e = refl

    by_end : (b : Bool) → is_after_header (position_of n) ≡ b → entries_so_far ws ≡ table_of n
    by_end true e =
        let d = header_done ws (table_of n) (subst (λ (m : Next). HasRead ws m) (o e) h) in
        ap entries_so_far d.1 ∙ entries_all (table_of n) d.0.each
    by_end false e = ap entries_so_far (sym h.all ∙ ap words (sym (reads h).1)) ∙ so_far n (reads h).0 e

-- They are no more than a file has hunks.
pub rows_few : (n : Next) (ws : List ℕ) → HasRead ws n → OpensFirst n → length (table_of n) ≤ most_hunks
rows_few n ws h o = by_end (is_after_header (position_of n)) refl
  where
    few : (m : Next) → NextFits m → is_after_header (position_of m) ≡ false → length (table_of m) ≤ most_hunks
    few (More (AtSizeWord hunks done owed)) f e = omega (arith, f.counts, f.hunks_fit.1)
    few (More (AtAttributes hunks done word owed)) f e = omega (arith, f.0.counts, f.0.hunks_fit.1)
    few (More (AtBlock p)) f e = absurd cc
    few (More (InBody p word x)) f e = absurd cc
    few (Finished v) f e = absurd cc
    few _ f e = omega arith

    by_end : (b : Bool) → is_after_header (position_of n) ≡ b → length (table_of n) ≤ most_hunks
    by_end true e = (header_done ws (table_of n) (subst (λ (m : Next). HasRead ws m) (o e) h)).0.most
    by_end false e = few n (reads h).0 e
