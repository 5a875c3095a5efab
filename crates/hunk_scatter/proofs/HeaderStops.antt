-- What stops the loader of a header is the fault of the bytes, the budget, or that memory ran out.
use Rattle.std.proofs.Common.{rules, ◌≡◌, true, false, ℕ, ◌+◌, ◌-◌, ◌*◌, ◌<◌, List, [], ◌∷◌, ◌++◌, length, take, drop, sym, ap, subst, ◌∙◌, append_assoc, append-nil, arith, length-append, Some, None, ◌⊎◌, inl, inr}
use Rattle.std.proofs.lemmas.Grind.{common_steps}
use Rattle.std.proofs.lemmas.List.{drop_all}
use Rattle.std.specs.Prelude.{IsTrue}
use Rattle.hunk_words.specs.{Bits.size_longs, Longs.{bytes_of, longs, IsLong, AreLongs, IsBytes}, declared.{fault.Fault.Fault, reason.Reason.Reason}}
use Rattle.hunk_words.proofs.LongLaws.{longs-bytes_of, length-bytes_of}
use Rattle.hunk_blocks.proofs.Lists.{All-more}
use Rattle.hunk_files.specs.{Fault.{Expects, HasRefusal, is_word_refusal}, Image.declared_bytes, LoadFile.TableEntry}
use Rattle.hunk_files.specs.{LoadText.header_labelled, FileSteps.{Progress, More, open_hunk, role_of, step_file}}
use Rattle.hunk_files.specs.{ReaderPosition.{position_of, table_of}, WordsRead.HasRead, FileParts.IsPartAt}
use Rattle.hunk_grammar.specs.{Roles.{Role, Role as roles, refuse}, Positions.{role_at, is_after_header}, declared.position.Position.Position}
use Rattle.hunk_grammar.specs.declared.file_kind.Sniff.TheVariants as sniffs
use Rattle.hunk_files.specs.declared.part.Part.TheVariants as parts
use Rattle.hunk_files.proofs.{walk.Accepted.header_accepted, walk.Reading.{reads, step_read, read_refused}, walk.Refusals.refusal_of_word, walk.Scan.expects_of}
use Rattle.hunk_scatter.specs.HeaderBytes.{IsHeaderTable, header_words, header_bytes, IsHeaderFront, MayGoOnInHeader, entries_so_far}
use Rattle.hunk_scatter.specs.HeaderFaults.{ExceedsBudget, IsOverBudget, IsBudgetOrMemory, IsHeaderFaultBy, IsHeaderFault}
use Rattle.hunk_scatter.specs.HeaderLoaderFields.{adds, declares, StopsFor, HeaderStop, StopsInPiece}
use Rattle.hunk_scatter.specs.LoadOutcomes.{GoesPastNoHeader}
use Rattle.hunk_scatter.proofs.{After.{stays_after, table_after, expected_passes, header_passes, role_here}, HeaderGrows.{row_in_table, table_grows}}
use Rattle.hunk_scatter.proofs.HeaderReads.{here, read_here, position_here, refusal_is, sum_here}
use Rattle.hunk_scatter.proofs.{HeaderSteps.{IsInHeader, not_in_body, step_adds, step_opens}, PartLaws.{part_after, part_in_header}}
use Rattle.hunk_scatter.proofs.{ListCuts.{Cuts, Same, Before, After, cuts, fronts}, HeaderTexts.{header_read, rows_read}, ReadWords.{read_longs, accepted_longs}}

-- the fault of a reason that is neither Budget nor OutOfMemory
plain_fault : (r : Reason) (budget : ℕ) (bytes : List ℕ) (at : ℕ) → IsTrue (is_word_refusal r) → HasRefusal bytes at r → IsHeaderFaultBy r budget bytes at
plain_fault r budget bytes at n h = search rules

pub header_longs : (t : List TableEntry) → IsHeaderTable t → AreLongs (header_words t)
header_longs t is = accepted_longs (header_labelled t) (header_accepted t is.some is.most is.each)

module _ (budget : ℕ) (bytes rest : List ℕ) (f : Fault) (s : HeaderStop budget bytes f) where
  before_longs : AreLongs (s.ws ++ s.word ∷ [])
  before_longs = All-more IsLong s.ws s.word (read_longs s.ws _ s.has_read.read) s.long

  -- the longwords of all the bytes
  spells : longs (bytes ++ rest) ≡ s.ws ++ s.word ∷ longs rest
  spells = grind (arith, common_steps, longs-bytes_of, before_longs, append_assoc)

  at : Progress
  at = here budget s.rows s.state s.ws s.has_read s.goes_on

  read_at : HasRead s.ws (More at)
  unfolding at
  read_at = read_here budget s.rows s.state s.ws s.has_read s.goes_on

  position_at : position_of (More at) ≡ s.state.position
  unfolding at
  position_at = position_here budget s.rows s.state s.ws s.has_read s.goes_on

  header_at : IsInHeader at
  header_at = ap is_after_header position_at ∙ s.goes_on

  refusal_at : (w : ℕ) → refuse (role_of at) w ≡ refuse (role_at 0 s.state.position) w
  unfolding at
  refusal_at w = refusal_is budget s.rows s.state s.ws s.has_read s.goes_on w

  expects_here : Expects s.ws (role_of at)
  expects_here = subst (λ (xs : List ℕ). Expects xs (role_of at)) read_at.all (expects_of at read_at.done (reads read_at))

  -- a size word is expected where bytes are declared
  expects_size : budget < s.state.total + declares s.state.position s.word → Expects s.ws roles.SizeWord
  expects_size passes = grind (arith, common_steps, at, position_at, expects_here)

  pub stop_refused : refuse (role_at 0 s.state.position) s.word ≡ Some f.reason → HasRefusal (bytes ++ rest) f.place f.reason
  stop_refused e =
      subst (λ (n : ℕ). HasRefusal (bytes ++ rest) n f.reason) (sym s.place)
      (read_refused (bytes ++ rest) s.ws at s.word (longs rest) f.reason read_at spells (refusal_at s.word ∙ e))

  pub stop_passes : budget < s.state.total + declares s.state.position s.word → ExceedsBudget budget (bytes ++ rest) f.place
  stop_passes passes =
      let x = expects_size passes in
      let k = sum_here budget s.rows s.state s.ws s.has_read s.goes_on s.word x in
      record {
        before = s.ws;
        word = s.word;
        after = longs rest;
        split = spells;
        place = s.place;
        expects = x;
        first = s.has_read.none_passes;
        passes = omega (arith, passes, k.0, k.1);
      }

  -- It is the fault.
  pub stop_fault : IsBytes rest → IsHeaderFault budget (bytes ++ rest) f
  stop_fault fit = go s.stops
    where
      go : StopsFor budget s.state s.word f.reason → IsHeaderFaultBy f.reason budget (bytes ++ rest) f.place
      go (inl (inl e)) = plain_fault f.reason budget (bytes ++ rest) f.place (refusal_of_word (bytes ++ rest) f.place f.reason (stop_refused e)) (stop_refused e)
      go (inl (inr o)) = subst (λ (r : Reason). IsHeaderFaultBy r budget (bytes ++ rest) f.place) (sym o.reason_is) (stop_passes o.passes)
      go (inr l) =
          let some = subst (λ (p : Position). 0 < length (adds p s.word)) (sym position_at) l.row in
          let read_more = step_read s.ws at s.word read_at s.long (refusal_at s.word ∙ l.accepted) in
          let opens = step_opens at s.word header_at (reads read_at).0 in
          let rows_before = rows_read (More at) s.ws read_at (λ e. let clash : false ≡ true = sym header_at ∙ e in absurd cc) in
          let rows_here = rows_read (step_file at s.word) (s.ws ++ s.word ∷ []) read_more opens in
          subst (λ (r : Reason). IsHeaderFaultBy r budget (bytes ++ rest) f.place) (sym l.reason_is)
          (record {
            before = s.ws;
            word = s.word;
            rest = rest;
            split = ap (λ (bs : List ℕ). bs ++ rest) s.spelled;
            place = s.place;
            row = omega (arith, some, ap length rows_before, ap length rows_here, ap length (step_adds at s.word header_at), length-append (table_of (More at)) (adds (position_of (More at)) s.word));
            begins =
                λ fits.
                subst (λ (bs : List ℕ). IsHeaderFront (bs ++ rest)) (sym s.spelled)
                (table_grows (step_file at s.word) (s.ws ++ s.word ∷ []) rest (row_in_table at s.word some) read_more opens fit fits);
          })

  -- It is in the header.
  pub stop_in_header : IsPartAt sniffs.Load (bytes ++ rest) f.place parts.Header
  stop_in_header =
      part_after s.ws (s.word ∷ longs rest) (bytes ++ rest) at f.place parts.Header read_at spells (omega (arith, s.place))
      (part_in_header at header_at)

  -- It ends the bytes.
  pub stop_ends : length bytes ≡ f.place + 4
  stop_ends = omega (arith, s.place, ap length s.spelled, length-bytes_of (s.ws ++ s.word ∷ []), length-append s.ws (s.word ∷ []))

  -- Where the table passes the budget, it stops there, or before it since memory runs out.
  pub stop_over : (place : ℕ) → ExceedsBudget budget (bytes ++ rest) place → IsOverBudget place f
  stop_over place p = by_cut (cuts s.ws s.word (longs rest) p.before p.word p.after (sym spells ∙ p.split)) s.stops
    where
      by_cut : Cuts s.ws s.word p.before p.word → StopsFor budget s.state s.word f.reason → IsOverBudget place f
      by_cut (Same e d) (inl (inl r)) =
          let role : role_of at ≡ roles.SizeWord = role_here s.ws at roles.SizeWord read_at (subst (λ (xs : List ℕ). Expects xs roles.SizeWord) (sym e) p.expects) in
          let none : refuse roles.SizeWord s.word ≡ Some f.reason = ap (λ (x : Role). refuse x s.word) (sym role) ∙ refusal_at s.word ∙ r in
          absurd cc
      by_cut (Same e d) (inl (inr o)) = inl (o.reason_is, s.place ∙ ap (λ (xs : List ℕ). 4 * length xs) e ∙ sym p.place)
      by_cut (Same e d) (inr l) =
          let x = subst (λ (xs : List ℕ). Expects xs roles.SizeWord) (sym e) p.expects in
          let k = sum_here budget s.rows s.state s.ws s.has_read s.goes_on s.word x in
          let front = ap (λ (xs : List ℕ). declared_bytes (entries_so_far xs)) e in
          let size = ap size_longs d in
          absurd (omega (arith, l.within, k.0, k.1, front, size, p.passes))
      by_cut (Before m e) (inl (inl r)) =
          let ok = expected_passes s.ws at s.word m roles.SizeWord read_at (subst (λ (xs : List ℕ). Expects xs roles.SizeWord) e p.expects) in
          let clash : None ≡ Some f.reason = sym ok ∙ refusal_at s.word ∙ r in
          absurd cc
      by_cut (Before m e) (inl (inr o)) =
          let x = expects_size o.passes in
          let k = sum_here budget s.rows s.state s.ws s.has_read s.goes_on s.word x in
          let le = p.first s.ws m s.word e x in
          absurd (omega (arith, le, o.passes, k.0, k.1))
      by_cut (Before m e) (inr l) =
          inr (l.reason_is, omega (arith, s.place, p.place, ap length e, length-append s.ws (s.word ∷ m)))
      by_cut (After m e) why =
          let le = s.has_read.none_passes p.before m p.word e p.expects in
          absurd (omega (arith, le, p.passes))

  -- Where a header goes on, or stands in front, only the budget and memory stop it.
  pub stop_accepts : MayGoOnInHeader (bytes ++ rest) → IsBudgetOrMemory f.reason
  unfolding at
  stop_accepts m = go s.stops
    where
      clash : refuse (role_of at) s.word ≡ None → refuse (role_at 0 s.state.position) s.word ≡ Some f.reason → IsBudgetOrMemory f.reason
      clash ok r = let c : None ≡ Some f.reason = sym ok ∙ refusal_at s.word ∙ r in absurd cc

      in_text : header_bytes m.table ≡ (bytes ++ rest) ++ m.more → header_words m.table ≡ s.ws ++ s.word ∷ longs (rest ++ m.more)
      in_text e =
          sym (append-nil (header_words m.table))
          ∙ sym (longs-bytes_of (header_words m.table) [] (header_longs m.table m.is_table))
          ∙ ap longs (append-nil (header_bytes m.table) ∙ e ∙ append_assoc bytes rest m.more ∙ ap (λ (bs : List ℕ). bs ++ (rest ++ m.more)) s.spelled)
          ∙ longs-bytes_of (s.ws ++ s.word ∷ []) (rest ++ m.more) before_longs
          ∙ append_assoc s.ws (s.word ∷ []) (longs (rest ++ m.more))

      after_text : bytes ++ rest ≡ header_bytes m.table ++ m.more → s.ws ++ s.word ∷ longs rest ≡ header_words m.table ++ longs m.more
      after_text e = sym spells ∙ ap longs e ∙ longs-bytes_of (header_words m.table) m.more (header_longs m.table m.is_table)

      by_front : refuse (role_at 0 s.state.position) s.word ≡ Some f.reason
          → ((k : List ℕ) × (header_words m.table ≡ s.ws ++ s.word ∷ k)) ⊎ ((k : List ℕ) × (s.ws ≡ header_words m.table ++ k)) → IsBudgetOrMemory f.reason
      by_front r (inl (k, e)) = clash (header_passes m.table m.is_table s.ws at s.word k read_at e) r
      by_front r (inr (k, e)) =
          absurd (not_in_body at header_at
          (stays_after (header_words m.table) k (open_hunk (length m.table) [] m.table) at (header_read m.table m.is_table) (table_after m.table m.is_table) (subst (λ (xs : List ℕ). HasRead xs (More at)) e read_at)))

      refused : refuse (role_at 0 s.state.position) s.word ≡ Some f.reason → (header_bytes m.table ≡ (bytes ++ rest) ++ m.more) ⊎ (bytes ++ rest ≡ header_bytes m.table ++ m.more) → IsBudgetOrMemory f.reason
      refused r (inl e) = clash (header_passes m.table m.is_table s.ws at s.word (longs (rest ++ m.more)) read_at (in_text e)) r
      refused r (inr e) = by_front r (fronts s.ws s.word (longs rest) (header_words m.table) (longs m.more) (after_text e))

      go : StopsFor budget s.state s.word f.reason → IsBudgetOrMemory f.reason
      go (inl (inl r)) = refused r m.fits
      go (inl (inr o)) = inl o.reason_is
      go (inr l) = inr l.reason_is

  -- The bytes go past no header.
  pub stop_within : GoesPastNoHeader bytes
  stop_within t more is e = go (fronts s.ws s.word [] (header_words t) (longs more) spelled)
    where
      spelled : s.ws ++ s.word ∷ [] ≡ header_words t ++ longs more
      spelled =
          sym (append-nil (s.ws ++ s.word ∷ []))
          ∙ sym (longs-bytes_of (s.ws ++ s.word ∷ []) [] before_longs)
          ∙ ap longs (append-nil (bytes_of (s.ws ++ s.word ∷ [])) ∙ sym s.spelled ∙ e)
          ∙ longs-bytes_of (header_words t) more (header_longs t is)

      go : ((m : List ℕ) × (header_words t ≡ s.ws ++ s.word ∷ m)) ⊎ ((m : List ℕ) × (s.ws ≡ header_words t ++ m)) → more ≡ []
      go (inl (m, d)) =
          drop_all 0 more
          (omega (
            arith,
            ap length (sym s.spelled ∙ e),
            length-bytes_of (s.ws ++ s.word ∷ []),
            length-append (header_bytes t) more,
            length-bytes_of (header_words t),
            ap length d,
            length-append s.ws (s.word ∷ m),
            length-append s.ws (s.word ∷ []),
          ))
      go (inr (m, d)) =
          absurd (not_in_body at header_at
          (stays_after (header_words t) m (open_hunk (length t) [] t) at (header_read t is) (table_after t is) (subst (λ (xs : List ℕ). HasRead xs (More at)) d read_at)))

-- A stop in the rest of a piece is one in the piece.
pub stops_on : (budget same : ℕ) (fed piece front : List ℕ) (n : ℕ) (f : Fault) → same ≡ budget → front ≡ fed ++ take n piece →
    StopsInPiece same front (take (length piece - n) (drop n piece)) f → StopsInPiece budget fed piece f
stops_on budget same fed piece front n f budget_is front_is s = grind (arith, common_steps)
