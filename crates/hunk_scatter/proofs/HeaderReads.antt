-- One longword of a header.
use Rattle.std.proofs.Common.{rules, ◌≡◌, ℕ, ◌+◌, ◌*◌, ◌≤◌, false, List, [], ◌∷◌, ◌++◌, map, refl, sym, ap, ap₂, subst, ◌∙◌, arith, None}
use Rattle.std.proofs.lemmas.List.{map-append}
use Rattle.hunk_words.specs.{Bits.size_longs, Longs.IsLong}
use Rattle.hunk_grammar.specs.{declared.position.Position.Position, Positions.{role_at, is_after_header}, Roles.{Role as roles, refuse}}
use Rattle.hunk_grammar.specs.Positions as scan
use Rattle.hunk_files.specs.{declared.row.Row.Row, Fault.Expects, Image.declared_bytes, LoadFile.TableEntry}
use Rattle.hunk_files.specs.{FileSteps.{Progress, Next, More, role_of, step_file}, ReaderPosition.{position_of, table_of}, WordsRead.HasRead, Tables.row_entry}
use Rattle.hunk_files.proofs.{walk.Positions.step_position, walk.Reading.{reads, step_read}}
use Rattle.hunk_scatter.specs.{declared.header_state.HeaderState.HeaderState, HeaderBytes.entries_so_far, HeaderFaults.IsWithinBudget}
use Rattle.hunk_scatter.specs.{HeaderLoaderFields.{adds, declares, declared_so_far, HasReadHeader}, Rows.{entries_of, row_of}}
use Rattle.hunk_scatter.proofs.{After.role_here, HeaderSteps.{IsInHeader, refusal_here, size_word, step_adds, step_declares, step_opens}}
use Rattle.hunk_scatter.proofs.{HeaderTexts.rows_read, ListCuts.{Cuts, Same, Before, After, cuts, not_before}}

-- ---- rows

pub entries-rows : (table : List TableEntry) → entries_of (map row_of table) ≡ table
entries-rows [] = refl
entries-rows (e ∷ table) = ap (λ (t : List TableEntry). e ∷ t) (entries-rows table)

pub entries-more : (rows : List Row) (more : List TableEntry) → entries_of (rows ++ map row_of more) ≡ entries_of rows ++ more
entries-more rows more = map-append row_entry rows (map row_of more) ∙ ap (λ (t : List TableEntry). entries_of rows ++ t) (entries-rows more)

unplaced_more : (rows : List Row) (more : List TableEntry) → rows ≡ map row_of (entries_of rows) → rows ++ map row_of more ≡ map row_of (entries_of (rows ++ map row_of more))
unplaced_more rows more e = search (rules, map-append, entries-more)

-- ---- the size words

module _ (budget : ℕ) (rows : List Row) (s : HeaderState) (ws : List ℕ) (h : HasReadHeader budget rows s ws) (more : is_after_header s.position ≡ false) where
  -- the reader goes on here
  goes_on : (n : Next) → is_after_header (position_of n) ≡ false → (p : Progress) × (n ≡ More p)
  goes_on n p = search rules

  at : (p : Progress) × (h.next ≡ More p)
  at = goes_on h.next (ap is_after_header h.position_is ∙ more)

  pub here : Progress
  here = at.0

  pub read_here : HasRead ws (More here)
  unfolding here
  read_here = subst (λ (n : Next). HasRead ws n) at.1 h.read

  pub position_here : position_of (More here) ≡ s.position
  unfolding here
  position_here = ap position_of (sym at.1) ∙ h.position_is

  pub in_header : IsInHeader here
  in_header = ap is_after_header position_here ∙ more

  table_here : table_of (More here) ≡ entries_of rows
  unfolding here
  table_here = ap table_of (sym at.1) ∙ h.table_is

  total_here : s.total ≡ declared_so_far (More here)
  unfolding here
  total_here = h.total_is ∙ ap declared_so_far at.1

  pub refusal_is : (w : ℕ) → refuse (role_of here) w ≡ refuse (role_at 0 s.position) w
  refusal_is w = refusal_here here w in_header (reads read_here).0 ∙ ap (λ (p : Position). refuse (role_at 0 p) w) position_here

  -- the sum where a size word is expected
  pub sum_here : (w : ℕ) → Expects ws roles.SizeWord → (declares s.position w ≡ 4 * size_longs w) × (s.total ≡ declared_bytes (entries_so_far ws))
  unfolding here
  sum_here w e =
      let k = size_word here w (role_here ws here roles.SizeWord read_here e) in (
        ap (λ (p : Position). declares p w) (sym position_here) ∙ k.0,
        total_here ∙ k.1 ∙ ap declared_bytes (ap table_of (sym at.1) ∙ sym (rows_read h.next ws h.read h.opens_first)),
      )

  module _ (w : ℕ) (within : s.total + declares s.position w ≤ budget) where
    none_passes_more : IsWithinBudget budget (ws ++ w ∷ [])
    none_passes_more before after word e x = go (cuts ws w [] before word after e)
      where
        go : Cuts ws w before word → declared_bytes (entries_so_far before) + 4 * size_longs word ≤ budget
        go (Same p q) =
            let k = sum_here w (subst (λ (xs : List ℕ). Expects xs roles.SizeWord) (sym p) x) in
            let size = ap size_longs q in
            let front = ap (λ (xs : List ℕ). declared_bytes (entries_so_far xs)) p in
            omega (arith, within, k.0, k.1, size, front)
        go (Before m p) = absurd (not_before ws w before word after m e p)
        go (After m p) = h.none_passes before m word p x

    -- A longword that passes.
    pub word_read : IsLong w → refuse (role_at 0 s.position) w ≡ None →
        HasReadHeader budget (rows ++ map row_of (adds s.position w)) (record { position = scan.step s.position w; total = s.total + declares s.position w }) (ws ++ w ∷ [])
    word_read is pass =
        let ok : refuse (role_of here) w ≡ None = refusal_is w ∙ pass in
        record {
          next = step_file here w;
          read = step_read ws here w read_here is ok;
          opens_first = step_opens here w in_header (reads read_here).0;
          position_is = step_position here w (reads read_here).0 ∙ ap (λ (p : Position). scan.step p w) position_here;
          table_is =
              step_adds here w in_header
              ∙ ap₂ (λ (t : List TableEntry) (p : Position). t ++ adds p w) table_here position_here
              ∙ sym (entries-more rows (adds s.position w));
          unplaced = unplaced_more rows (adds s.position w) h.unplaced;
          total_is =
              ap₂ (λ (n : ℕ) (p : Position). n + declares p w) total_here (sym position_here) ∙ sym (step_declares here w in_header);
          within = within;
          none_passes = none_passes_more;
        }
