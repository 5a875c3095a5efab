-- What the loader of a header has consumed goes past no end of a header.
use Rattle.std.proofs.Common.{◌≡◌, ℕ, ◌≤◌, Bool, true, false, List, [], ◌++◌, length, refl, sym, ap, subst, ◌∙◌, append-nil, arith, length-append}
use Rattle.std.proofs.lemmas.Grind.{common_steps}
use Rattle.hunk_words.specs.Longs.{longs}
use Rattle.hunk_words.proofs.LongLaws.{longs-bytes_of}
use Rattle.hunk_files.specs.{LoadFile.TableEntry, declared.row.Row.Row, FileSteps.{More, open_hunk}, WordsRead.HasRead}
use Rattle.hunk_grammar.specs.Positions.{is_after_header}
use Rattle.hunk_scatter.specs.{declared.header_state.HeaderState.HeaderState, HeaderBytes.{header_bytes, header_words}}
use Rattle.hunk_scatter.specs.{HeaderLoaderFields.HeaderReading, LoadOutcomes.GoesPastNoHeader, Rows.entries_of}
use Rattle.hunk_scatter.proofs.{After.{stays_after, table_after}, HeaderFields.heading_table, HeaderFronts.one_table}
use Rattle.hunk_scatter.proofs.{HeaderReads.{here, read_here, in_header}, HeaderSteps.not_in_body}
use Rattle.hunk_scatter.proofs.{HeaderTexts.header_read, HeaderStops.header_longs, Outcomes.longs_are}

none : (xs : List ℕ) → length xs ≤ 0 → xs ≡ []
none xs le = grind (arith, common_steps)

module _ (budget : ℕ) (rows : List Row) (s : HeaderState) (pending fed : List ℕ) (r : HeaderReading budget rows s pending fed) where
  pub heading_ends : GoesPastNoHeader fed
  heading_ends t more is e = go (is_after_header s.position) refl
    where
      words : r.ws ≡ header_words t ++ longs more
      words =
          sym (longs_are r.ws r.has_read.next pending fed r.has_read.read r.few r.spelled)
          ∙ ap longs e
          ∙ longs-bytes_of (header_words t) more (header_longs t is)

      go : (b : Bool) → is_after_header s.position ≡ b → more ≡ []
      go true done =
          let d = heading_table budget rows s pending fed r done in
          let same : entries_of rows ≡ t = one_table (entries_of rows) t [] more d.0 is (append-nil (header_bytes (entries_of rows)) ∙ sym d.1 ∙ e) in
          none more
          (omega (
            arith,
            ap length (sym d.1 ∙ e),
            length-append (header_bytes t) more,
            ap (λ (u : List TableEntry). length (header_bytes u)) same,
          ))
      go false going =
          absurd (not_in_body (here budget rows s r.ws r.has_read going) (in_header budget rows s r.ws r.has_read going)
          (stays_after (header_words t) (longs more) (open_hunk (length t) [] t) (here budget rows s r.ws r.has_read going) (header_read t is) (table_after t is)
          (subst (λ (ws : List ℕ). HasRead ws (More (here budget rows s r.ws r.has_read going))) words (read_here budget rows s r.ws r.has_read going))))
