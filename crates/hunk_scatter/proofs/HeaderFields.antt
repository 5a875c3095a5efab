-- What the fields of the loader of a header keep, and what they tell.
use Rattle.std.proofs.Common.{rules, ◌≡◌, ℕ, ◌+◌, ◌-◌, ◌*◌, ◌/◌, ◌^◌, ◌<◌, ◌≤◌, Bool, true, false, List, [], ◌∷◌, ◌++◌, length, map, refl, sym, ap, subst, ◌∙◌, append_assoc, append-nil, arith, length-append, Option, Some, None, Ok, ◌⊎◌, inl, inr, ltb, take, drop, length-drop, take-append-drop}
use Rattle.std.proofs.lemmas.Grind.{common_steps}
use Rattle.std.proofs.lemmas.{Bool.{ltb-true, ltb-false}, List.{length-map, take_all}}
use Rattle.hunk_words.specs.{Longs.{longs, bytes_of, IsLong}, declared.fault.Fault.Fault, declared.reason.Reason.Reason}
use Rattle.hunk_words.proofs.{GatherLaws.gathers-word, LongLaws.{bytes_of-nil, longs-bytes_of, length-bytes_of, longs-few, length-longs}}
use Rattle.hunk_files.specs.{declared.row.Row.Row, Fault.{IsTruncated, Expects}, Image.declared_bytes, LoadFile.TableEntry}
use Rattle.hunk_files.specs.{FileSteps.{Progress, More, Finished, open_hunk, Next}, ReaderPosition.table_of, WordsRead.HasRead, Tables.row_entry}
use Rattle.hunk_grammar.specs.{Roles.{refuse, Role as roles}, Positions.{role_at, step, is_after_header, least_longs}}
use Rattle.hunk_files.proofs.walk.Reading.{start_read, one_place}
use Rattle.hunk_grammar.specs.declared.position.Position.TheVariants as positions
use Rattle.hunk_scatter.specs.{declared.header_state.HeaderState.HeaderState, HeaderBytes.{IsHeaderTable, IsHeader, header_words, header_bytes, entries_so_far}}
use Rattle.hunk_scatter.specs.{HeaderFaults.ExceedsBudget, LoaderValues.{HeaderLoaderValue, FeedsFront, HasNoRefusal}, Rows.{entries_of, row_of}}
use Rattle.hunk_scatter.specs.HeaderLoaderFields.{adds, declares, declared_so_far, OpensFirst, StopsFor, HeaderReading, HeaderLoaderInvariant, DeclaredInvariant, HeaderStop, FeedsHeaderOrStops}
use Rattle.hunk_scatter.proofs.{After.{no_size_word, table_after}, DeclaredBytes.declared_limit}
use Rattle.hunk_scatter.proofs.{HeaderLeast.{header_owes, least_is, opens}, HeaderSteps.rows_total, HeaderReads.word_read, HeaderStops.header_longs}
use Rattle.hunk_scatter.proofs.HeaderTexts.{entries_most, header_read, header_done, rows_read, rows_few}
use Rattle.hunk_scatter.proofs.{Outcomes.{longs_are, read_clean, read_truncated}, ReadWords.read_longs, ListCuts.fronts}

-- where the reader goes on
goes_further : (n : Next) (ws : List ℕ) → HasRead ws n → OpensFirst n → (p : Progress) × HasRead ws (More p)
goes_further (More p) ws h o = (p, h)
goes_further (Finished v) ws h o = go (table_of (Finished v)) (o refl)
  where
    go : (t : List TableEntry) → Finished v ≡ open_hunk (length t) [] t → (p : Progress) × HasRead ws (More p)
    go [] e = let some = (header_done ws [] (subst (λ (m : Next). HasRead ws m) e h)).0.some in absurd (omega (arith, some))
    go (x ∷ t) e = absurd cc

pub header_spells : (t : List TableEntry) → IsHeaderTable t → longs (header_bytes t) ≡ header_words t
header_spells t is = ap longs (sym (append-nil (header_bytes t))) ∙ longs-bytes_of (header_words t) [] (header_longs t is) ∙ append-nil (header_words t)

-- ---- what the fields tell

module _ (budget : ℕ) (rows : List Row) (s : HeaderState) (pending fed : List ℕ) (r : HeaderReading budget rows s pending fed) where
  words_are : longs fed ≡ r.ws
  words_are = longs_are r.ws r.has_read.next pending fed r.has_read.read r.few r.spelled

  pub heading_clean : HasNoRefusal fed
  heading_clean = read_clean r.ws r.has_read.next pending fed r.has_read.read r.few r.spelled

  pub heading_truncated : IsTruncated fed (4 * (length fed / 4))
  heading_truncated =
      let g = goes_further r.has_read.next r.ws r.has_read.read r.has_read.opens_first in
      read_truncated r.ws g.0 pending fed g.1 r.few r.spelled

  pub heading_within : (at : ℕ) → ExceedsBudget budget fed at → ⊥
  heading_within at p = search (rules, words_are)

  pub heading_rows : length rows ≡ length (entries_so_far (longs fed))
  heading_rows =
      sym (length-map rows row_entry)
      ∙ ap length (sym r.has_read.table_is ∙ sym (rows_read r.has_read.next r.ws r.has_read.read r.has_read.opens_first))
      ∙ ap (λ (ws : List ℕ). length (entries_so_far ws)) (sym words_are)

  pub heading_few : length rows ≤ 65536 → length fed < 2 ^ 32
  heading_few few = omega (arith, heading_rows, entries_most (drop 5 (longs fed)), length-drop 5 (longs fed), length-longs fed)

  pub heading_room : length rows ≤ 65536 → s.total + 2 ^ 32 < 2 ^ 64
  heading_room few = search (rules, declared_limit, length-map)

  -- where the header is whole
  whole_next : is_after_header s.position ≡ true → r.has_read.next ≡ open_hunk (length (entries_of rows)) [] (entries_of rows)
  whole_next done = search rules

  pub heading_table : is_after_header s.position ≡ true → IsHeaderTable (entries_of rows) × (fed ≡ header_bytes (entries_of rows))
  heading_table done =
      let d = header_done r.ws (entries_of rows) (subst (λ (n : Next). HasRead r.ws n) (whole_next done) r.has_read.read) in (
        d.0,
        r.spelled ∙ ap (λ (bs : List ℕ). bytes_of r.ws ++ bs) (r.whole done) ∙ append-nil (bytes_of r.ws) ∙ ap bytes_of d.1,
      )

  pub heading_total : is_after_header s.position ≡ true → s.total ≡ declared_bytes (entries_of rows)
  heading_total done = r.has_read.total_is ∙ ap declared_so_far (whole_next done) ∙ rows_total (length (entries_of rows)) (entries_of rows) 0

  -- the longwords of a header that begins with what was fed
  header_split : (t : List TableEntry) (more : List ℕ) → IsHeaderTable t → header_bytes t ≡ fed ++ more → header_words t ≡ r.ws ++ longs (pending ++ more)
  header_split t more is e =
      sym (append-nil (header_words t))
      ∙ sym (longs-bytes_of (header_words t) [] (header_longs t is))
      ∙ ap longs (append-nil (header_bytes t) ∙ e ∙ ap (λ (bs : List ℕ). bs ++ more) r.spelled ∙ append_assoc (bytes_of r.ws) pending more)
      ∙ longs-bytes_of r.ws (pending ++ more) (read_longs r.ws _ r.has_read.read)

  pub heading_not_whole : is_after_header s.position ≡ false → IsHeader fed → ⊥
  heading_not_whole more (t, is, e) =
      let same : header_words t ≡ r.ws =
      header_split t [] is (sym e ∙ sym (append-nil fed)) ∙ ap (λ (xs : List ℕ). r.ws ++ xs) (ap longs (append-nil pending) ∙ longs-few pending r.few) ∙ append-nil r.ws in
      opens r.has_read.next t (ap is_after_header r.has_read.position_is ∙ more) is
      (one_place r.ws r.has_read.next (open_hunk (length t) [] t) r.has_read.read (subst (λ (xs : List ℕ). HasRead xs (open_hunk (length t) [] t)) same (header_read t is)))

  -- No header that begins with what was fed ends in fewer bytes.
  pub heading_least : is_after_header s.position ≡ false → (t : List TableEntry) (more : List ℕ) → IsHeaderTable t → header_bytes t ≡ fed ++ more → 4 * least_longs s.position ≤ length pending + length more
  heading_least going t more is e =
      let d = header_split t more is e in
      let owed = header_owes r.has_read.next r.ws r.has_read.read t is (longs (pending ++ more)) d in
      omega (
        arith,
        owed,
        least_is r.has_read.next (ap is_after_header r.has_read.position_is ∙ going),
        ap least_longs r.has_read.position_is,
        length-append pending more,
        length-longs (pending ++ more),
      )

-- ---- what is seen of a loader that has refused nothing

module _ (budget : ℕ) (rows : List Row) (s : HeaderState) (pending : List ℕ) (count : ℕ) (refused : Option Fault) (fed : List ℕ)
    (h : HeaderLoaderInvariant budget rows s pending count refused fed)
    (self : HeaderLoaderValue) (view : ◌≡◌ {A = HeaderLoaderValue} (record { fed = fed; budget = budget; refused = refused }) self) (reading : self.refused ≡ None) where
  pub heading_unrefused : refused ≡ None
  heading_unrefused = ap (λ (v : HeaderLoaderValue). v.refused) view ∙ reading

  pub heading_seen_whole : is_after_header s.position ≡ true → IsHeader self.fed
  heading_seen_whole done = search (rules, heading_table, heading_unrefused)

  pub heading_seen_not_whole : is_after_header s.position ≡ false → IsHeader self.fed → ⊥
  heading_seen_not_whole more w = search (rules, heading_not_whole, heading_unrefused)

-- Bytes are taken where the header is not whole.
pub heading_feeds : (old new : HeaderLoaderValue) (piece : List ℕ) (n : ℕ) → new.budget ≡ old.budget → FeedsFront old.fed piece new.fed n → new.refused ≡ None → (IsHeader old.fed → ⊥) →
    FeedsHeaderOrStops old new piece (Ok n)
heading_feeds old new piece n budget taken goes_on more = search rules

-- What was consumed of a piece keeps to the budget, and so does the piece.
pub piece_within : (budget : ℕ) (rows : List Row) (s : HeaderState) (pending fed piece after : List ℕ) (n : ℕ) → HeaderReading budget rows s pending after →
    n ≤ length piece → after ≡ fed ++ take n piece → (n < length piece → IsHeader after) → (at : ℕ) → ExceedsBudget budget (fed ++ piece) at → ⊥
piece_within budget rows s pending fed piece after n r le is all at p = go (ltb n (length piece)) refl
  where
    whole : after ++ drop n piece ≡ fed ++ piece
    whole = ap (λ (xs : List ℕ). xs ++ drop n piece) is ∙ append_assoc fed (take n piece) (drop n piece) ∙ ap (λ (xs : List ℕ). fed ++ xs) (take-append-drop n piece)

    within : longs after ≡ longs after → (word_after : List ℕ) → longs after ≡ p.before ++ p.word ∷ word_after → ⊥
    within same word_after e =
        heading_within budget rows s pending after r at
        (record { before = p.before; word = p.word; after = word_after; split = e; place = p.place; expects = p.expects; first = p.first; passes = p.passes })

    by_front : (t : List TableEntry) → IsHeaderTable t → after ≡ header_bytes t →
        ((m : List ℕ) × (header_words t ≡ p.before ++ p.word ∷ m)) ⊎ ((m : List ℕ) × (p.before ≡ header_words t ++ m)) → ⊥
    by_front t ok e (inl (m, d)) = within refl m (ap longs e ∙ header_spells t ok ∙ d)
    by_front t ok e (inr (m, d)) =
        no_size_word (header_words t) m (open_hunk (length t) [] t) (header_read t ok) (table_after t ok) (subst (λ (xs : List ℕ). Expects xs roles.SizeWord) d p.expects)

    in_header : IsHeader after → ⊥
    in_header (t, ok, e) =
        by_front t ok e
        (fronts p.before p.word p.after (header_words t) (longs (drop n piece))
        (sym p.split ∙ ap longs (sym whole ∙ ap (λ (bs : List ℕ). bs ++ drop n piece) e) ∙ longs-bytes_of (header_words t) (drop n piece) (header_longs t ok)))

    go : (b : Bool) → ltb n (length piece) ≡ b → ⊥
    go true e = in_header (all (ltb-true n (length piece) e))
    go false e =
        let done : length piece ≤ n = ltb-false n (length piece) e in
        within refl p.after (ap longs (is ∙ ap (λ (xs : List ℕ). fed ++ xs) (take_all n piece done)) ∙ p.split)

-- ---- bytes of a piece

-- the same fields, however the state is written
pub heading_as : (budget : ℕ) (rows rows2 : List Row) (s s2 : HeaderState) (pending pending2 : List ℕ) (count : ℕ) (refused : Option Fault) (fed fed2 : List ℕ) →
    rows2 ≡ rows → s2.position ≡ s.position → s2.total ≡ s.total → pending2 ≡ pending → fed2 ≡ fed → HeaderLoaderInvariant budget rows s pending count refused fed → HeaderLoaderInvariant budget rows2 s2 pending2 count refused fed2
heading_as budget rows rows2 s s2 pending pending2 count refused fed fed2 e p t d f h = search rules

-- a loader that nothing was fed to
pub heading_new : (budget : ℕ) → HeaderLoaderInvariant budget [] (record { position = positions.FirstLong; total = 0 }) [] 0 None []
heading_new budget = search (rules, bytes_of-nil, append-nil, start_read)

module _ (budget : ℕ) (rows : List Row) (s : HeaderState) (pending : List ℕ) (count : ℕ) (refused : Option Fault) (fed : List ℕ)
    (h : HeaderLoaderInvariant budget rows s pending count refused fed) (none : refused ≡ None) (more : is_after_header s.position ≡ false) where
  now : HeaderReading budget rows s pending fed
  now = h.reading none

  -- Bytes that complete no longword.
  pub heading_pending : (bytes after : List ℕ) (n : ℕ) → length bytes ≡ n → after ≡ pending ++ bytes → length after < 4 → HeaderLoaderInvariant budget rows s after (count + n) refused (fed ++ bytes)
  heading_pending bytes after n long e few = grind (arith, common_steps)

  module _ (bytes : List ℕ) (n : ℕ) (long : length bytes ≡ n) (w : ℕ) (is : IsLong w) (gathers : pending ++ bytes ≡ bytes_of (w ∷ [])) where
    spells : fed ++ bytes ≡ bytes_of (now.ws ++ w ∷ [])
    spells = gathers-word fed pending bytes [] now.ws w now.spelled (gathers, refl) ∙ append-nil (bytes_of (now.ws ++ w ∷ []))

    heading_place : count + n ≡ 4 * length now.ws + 4
    heading_place =
        omega (
          arith,
          h.counted,
          long,
          ap length spells,
          length-append fed bytes,
          length-bytes_of (now.ws ++ w ∷ []),
          length-append now.ws (w ∷ []),
        )

    pub heading_four : 4 ≤ count + n
    heading_four = omega (arith, heading_place)

    -- Those that complete a longword that passes.
    pub heading_word : refuse (role_at 0 s.position) w ≡ None → s.total + declares s.position w ≤ budget →
        HeaderLoaderInvariant budget (rows ++ map row_of (adds s.position w)) (record { position = step s.position w; total = s.total + declares s.position w }) [] (count + n) refused (fed ++ bytes)
    heading_word pass within =
        let k = word_read budget rows s now.ws now.has_read more w within is pass in
        record {
          counted = omega (arith, h.counted, long, length-append fed bytes);
          few_rows =
              omega (
                arith,
                rows_few k.next (now.ws ++ w ∷ []) k.read k.opens_first,
                ap length k.table_is,
                length-map (rows ++ map row_of (adds s.position w)) row_entry,
              );
          reading =
              λ x. record {
                ws = now.ws ++ w ∷ [];
                spelled = spells ∙ sym (append-nil (bytes_of (now.ws ++ w ∷ [])));
                few = omega arith;
                whole = λ done. refl;
                has_read = k;
              };
          own_reasons = h.own_reasons;
          cleared = λ f e. absurd (let d : None ≡ Some f = sym none ∙ e in cc);
        }

    -- Those that complete a longword that stops the loader.
    pub heading_stop : (reason : Reason) → StopsFor budget s w reason → HeaderStop budget (fed ++ bytes) (record { place = count + n - 4; reason = reason })
    heading_stop reason stops = record {
      ws = now.ws;
      rows = rows;
      state = s;
      word = w;
      spelled = spells;
      long = is;
      has_read = now.has_read;
      goes_on = more;
      place = omega (arith, heading_place);
      stops = stops;
    }

-- A header that is whole is that of the table.
pub table_declared : (budget : ℕ) (rows : List Row) (s : HeaderState) (pending : List ℕ) (count : ℕ) (refused : Option Fault) (fed : List ℕ) →
    HeaderLoaderInvariant budget rows s pending count refused fed → refused ≡ None → is_after_header s.position ≡ true → DeclaredInvariant rows s.total budget count fed
table_declared budget rows s pending count refused fed h none done = search (rules, heading_table, heading_total)
