-- A header that is read in place, with no memory for its rows.
use Rattle.std.proofs.Common.{rules, ◌≡◌, ℕ, zero, suc, ◌+◌, ◌*◌, ◌/◌, ◌^◌, ◌<◌, ◌≤◌, true, false, List, [], ◌∷◌, ◌++◌, length, take, drop, get_or, refl, sym, ap, subst, ◌∙◌, append-nil, arith, length-append, length-take, length-drop, take-append-drop, map, None, inl, inr}
use Rattle.std.proofs.Math.Seq.{take-add}
use Rattle.std.specs.Prelude.{IsTrue}
use Rattle.std.proofs.lemmas.List.{get_or-drop}
use Rattle.hunk_words.specs.{Longs.{longs, bytes_of, AreLongs, IsLong, IsBytes}, declared.reason.Reason.Reason}
use Rattle.hunk_words.specs.declared.reason.Reason.TheVariants as reasons
use Rattle.hunk_words.proofs.LongLaws.{bytes_of-append, in_place, longs-bytes_of, length-bytes_of, length-longs, longs_fit}
use Rattle.hunk_files.specs.{Fault.{HasRefusal, IsTruncated, is_word_refusal}, Image.declared_bytes, LoadFile.TableEntry, declared.row.Row.Row}
use Rattle.hunk_grammar.specs.declared.position.Position.TheVariants as positions
use Rattle.hunk_grammar.specs.{Positions.{role_at, step, is_after_header, least_longs}, Roles.refuse}
use Rattle.hunk_scatter.specs.{declared.header_state.HeaderState.HeaderState, HeaderBytes.{IsHeaderTable, header_bytes, header_words}}
use Rattle.hunk_scatter.specs.HeaderLoaderFields.{adds, declares, PassesWords, RefusesWord, HeaderReading, HeaderLoaderInvariant, HeaderStop}
use Rattle.hunk_scatter.specs.{HeaderFaults.{ExceedsBudget, IsBudgetOrMemory}, HeaderOwing.HeaderOwes}
use Rattle.hunk_scatter.specs.{HeaderSizes.{RefusesHeader, TellsOwed}, Rows.{entries_of, row_of}}
use Rattle.hunk_scatter.proofs.HeaderFields.{heading_new, heading_room, heading_pending, heading_word, heading_table, heading_total, heading_truncated, heading_within, heading_not_whole, heading_as}
use Rattle.hunk_scatter.proofs.{HeaderStops.{header_longs, stop_refused, stop_passes, stop_accepts}, HeaderEnds.heading_ends, HeaderOwed.owes_header}

-- Longwords of a header were read up to this byte, and rows may be named that they complete.
pub record HeaderSoFar (budget : ℕ) (bytes : List ℕ) (s : HeaderState) (at : ℕ) : Type 0 where
  pub rows : List Row
  pub inside : at ≤ length bytes
  pub read : HeaderLoaderInvariant budget rows s [] at None (take at bytes)

pub none_so_far : (budget : ℕ) (bytes : List ℕ) → HeaderSoFar budget bytes (record { position = positions.FirstLong; total = 0 }) 0
none_so_far budget bytes = record { rows = []; inside = omega arith; read = heading_new budget }

module _ (budget : ℕ) (bytes : List ℕ) (s : HeaderState) (at : ℕ) (h : HeaderSoFar budget bytes s at) where
  pub so_far : HeaderReading budget h.rows s [] (take at bytes)
  so_far = h.read.reading refl

  pub so_far_within : s.total ≤ budget
  so_far_within = so_far.has_read.within

  pub so_far_room : s.total + 2 ^ 32 < 2 ^ 64
  so_far_room = heading_room budget h.rows s [] (take at bytes) so_far h.read.few_rows

  fours : at ≡ 4 * length so_far.ws
  fours = omega (arith, h.read.counted, ap length so_far.spelled, length-append (bytes_of so_far.ws) [], length-bytes_of so_far.ws)

  -- The header is whole.
  pub header_whole : is_after_header s.position ≡ true → IsHeaderTable (entries_of h.rows) × (bytes ≡ header_bytes (entries_of h.rows) ++ drop at bytes)
  header_whole done = search (rules, heading_table, take-append-drop)

  pub header_total : is_after_header s.position ≡ true → s.total ≡ declared_bytes (entries_of h.rows)
  header_total done = heading_total budget h.rows s [] (take at bytes) so_far done

  pub header_end : is_after_header s.position ≡ true → at ≡ length (header_bytes (entries_of h.rows))
  header_end done = h.read.counted ∙ ap length (heading_table budget h.rows s [] (take at bytes) so_far done).1

  module _ (more : is_after_header s.position ≡ false) where
    -- The bytes end inside the next longword.
    pub header_cut : length (drop at bytes) < 4 → IsTruncated bytes at
    header_cut few =
        let end = drop at bytes in
        let all = heading_pending budget h.rows s [] at None (take at bytes) h.read refl more end end (length end) refl refl few in
        let whole : take at bytes ++ end ≡ bytes = take-append-drop at bytes in
        let place : 4 * (length bytes / 4) ≡ at = omega (arith, fours, few, h.inside, length-drop at bytes) in
        subst (λ (n : ℕ). IsTruncated bytes n) place
        (subst (λ (xs : List ℕ). IsTruncated xs (4 * (length xs / 4))) whole
        (heading_truncated budget h.rows s end (take at bytes ++ end) (all.reading refl)))

    -- The budget is passed nowhere in bytes that end there.
    pub cut_within : length (drop at bytes) < 4 → (place : ℕ) → ExceedsBudget budget bytes place → ⊥
    cut_within few place p =
        let end = drop at bytes in
        let all = heading_pending budget h.rows s [] at None (take at bytes) h.read refl more end end (length end) refl refl few in
        heading_within budget h.rows s end (take at bytes ++ end) (all.reading refl) place
        (subst (λ (xs : List ℕ). ExceedsBudget budget xs place) (sym (take-append-drop at bytes)) p)

    -- No header is in front of bytes that end there.
    pub none_cut : length (drop at bytes) < 4 → (t : List TableEntry) (rest : List ℕ) → IsHeaderTable t → bytes ≡ header_bytes t ++ rest → ⊥
    none_cut few t rest is e =
        let end = drop at bytes in
        let all = heading_pending budget h.rows s [] at None (take at bytes) h.read refl more end end (length end) refl refl few in
        let split : take at bytes ++ end ≡ header_bytes t ++ rest = take-append-drop at bytes ∙ e in
        let none : rest ≡ [] = heading_ends budget h.rows s end (take at bytes ++ end) (all.reading refl) t rest is split in
        let same : take at bytes ++ end ≡ header_bytes t = split ∙ ap (λ (xs : List ℕ). header_bytes t ++ xs) none ∙ append-nil (header_bytes t) in
        heading_not_whole budget h.rows s end (take at bytes ++ end) (all.reading refl) more (t, is, same)

    -- So much of the header is owed.
    pub cut_owes : length (drop at bytes) < 4 → (owed : ℕ) → owed + length (drop at bytes) ≡ 4 * least_longs s.position → HeaderOwes bytes owed
    cut_owes few owed is =
        let end = drop at bytes in
        let all = heading_pending budget h.rows s [] at None (take at bytes) h.read refl more end end (length end) refl refl few in
        subst (λ (xs : List ℕ). HeaderOwes xs owed) (take-append-drop at bytes)
        (owes_header budget h.rows s end (take at bytes ++ end) (all.reading refl) owed more is)

    module _ (are : IsBytes bytes) (four : 4 ≤ length (drop at bytes)) (w : ℕ) (is : IsLong w) (first : w ≡ get_or (longs (drop at bytes)) 0 0) where
      next : List ℕ
      next = take 4 (drop at bytes)

      rest_are : IsBytes (drop at bytes)
      rest_are k = omega (arith, get_or-drop at bytes k 0, are (at + k))

      next_spelled : [] ++ next ≡ bytes_of (w ∷ [])
      unfolding next
      next_spelled = in_place (drop at bytes) rest_are four ∙ ap (λ (v : ℕ). bytes_of (v ∷ [])) (sym first)

      next_length : length next ≡ 4
      unfolding next
      next_length = omega (arith, length-take 4 (drop at bytes), four)

      next_end : take (at + 4) bytes ≡ take at bytes ++ next
      unfolding next
      next_end = take-add at 4 bytes

      -- It passes.
      pub word_passes : (s2 : HeaderState) → refuse (role_at 0 s.position) w ≡ None → s.total + declares s.position w ≤ budget → s2.position ≡ step s.position w →
          s2.total ≡ s.total + declares s.position w → HeaderSoFar budget bytes s2 (at + 4)
      word_passes s2 pass within position total = record {
        rows = h.rows ++ map row_of (adds s.position w);
        inside = omega (arith, four, h.inside, length-drop at bytes);
        read =
            heading_as budget _ _ _ s2 [] [] (at + 4) None _ _ refl position total refl next_end
            (heading_word budget h.rows s [] at None (take at bytes) h.read refl more next 4 next_length w is next_spelled pass within);
      }

      stops_here : (reason : Reason) → RefusesWord budget s w reason → HeaderStop budget (take (at + 4) bytes) (record { place = at; reason = reason })
      stops_here reason why = record {
        ws = so_far.ws;
        rows = h.rows;
        state = s;
        word = w;
        spelled =
            next_end
            ∙ ap (λ (xs : List ℕ). xs ++ next) (so_far.spelled ∙ append-nil (bytes_of so_far.ws))
            ∙ ap (λ (xs : List ℕ). bytes_of so_far.ws ++ xs) next_spelled
            ∙ sym (bytes_of-append so_far.ws (w ∷ []));
        long = is;
        has_read = so_far.has_read;
        goes_on = more;
        place = fours;
        stops = inl why;
      }

      whole : take (at + 4) bytes ++ drop (at + 4) bytes ≡ bytes
      whole = take-append-drop (at + 4) bytes

      -- It is refused.
      pub word_stops : (reason : Reason) → RefusesWord budget s w reason → RefusesHeader budget bytes (record { place = at; reason = reason })
      unfolding stops_here
      word_stops reason (inl e) =
          inl (subst (λ (xs : List ℕ). HasRefusal xs at reason) whole (stop_refused budget (take (at + 4) bytes) (drop (at + 4) bytes) _ (stops_here reason (inl e)) e))
      word_stops reason (inr o) =
          inr (inl (o.reason_is, subst (λ (xs : List ℕ). ExceedsBudget budget xs at) whole (stop_passes budget (take (at + 4) bytes) (drop (at + 4) bytes) _ (stops_here reason (inr o)) o.passes)))

      -- Where a header is in front, the budget alone refuses it.
      pub word_accepted : (reason : Reason) → RefusesWord budget s w reason → (t : List TableEntry) (rest : List ℕ) → IsHeaderTable t → bytes ≡ header_bytes t ++ rest → reason ≡ reasons.Budget
      unfolding stops_here
      word_accepted reason (inr o) t rest is e = o.reason_is
      word_accepted reason (inl r) t rest is e =
          by_reason (stop_accepts budget (take (at + 4) bytes) (drop (at + 4) bytes) _ (stops_here reason (inl r)) (record { table = t; is_table = is; more = rest; fits = inr (whole ∙ e) }))
        where
          refused : IsTrue (is_word_refusal reason)
          refused = search rules

          by_reason : IsBudgetOrMemory reason → reason ≡ reasons.Budget
          by_reason (inl b) = b
          by_reason (inr m) = let no : IsTrue false = subst (λ (x : Reason). IsTrue (is_word_refusal x)) m refused in absurd cc

      -- Nothing is told of what is owed.
      pub word_owes : (reason : Reason) → RefusesWord budget s w reason → TellsOwed bytes reason 0
      unfolding stops_here
      word_owes reason (inr o) = subst (λ (x : Reason). TellsOwed bytes x 0) (sym o.reason_is) refl
      word_owes reason (inl r) = search rules

-- ---- longwords that pass at once

long_there : (bytes : List ℕ) (at : ℕ) → IsBytes bytes → IsLong (get_or (longs (drop at bytes)) 0 0)
long_there bytes at are = go (longs (drop at bytes)) (longs_fit (drop at bytes) (λ k. omega (arith, get_or-drop at bytes k 0, are (at + k))))
  where
    go : (ws : List ℕ) → AreLongs ws → IsLong (get_or ws 0 0)
    go [] fit = omega arith
    go (w ∷ ws) fit = fit.0

pub words_pass : (budget : ℕ) (bytes : List ℕ) (s : HeaderState) (at : ℕ) → HeaderSoFar budget bytes s at → IsBytes bytes → (count : ℕ) (next : HeaderState) → PassesWords budget bytes at s count next → at + 4 * count ≤ length bytes →
    HeaderSoFar budget bytes next (at + 4 * count)
words_pass budget bytes s at h are zero next same inside = subst (λ (n : ℕ). HeaderSoFar budget bytes next n) (omega arith) (subst (λ (t : HeaderState). HeaderSoFar budget bytes t at) same h)
words_pass budget bytes s at h are (suc count) next (here, before, more, passes) inside =
    let there = words_pass budget bytes s at h are count here before (omega (arith, inside)) in
    subst (λ (n : ℕ). HeaderSoFar budget bytes next n) (omega arith)
    (word_passes budget bytes here (at + 4 * count) there more are (omega (arith, inside, length-drop (at + 4 * count) bytes)) _ (long_there bytes (at + 4 * count) are) refl next passes.accepted passes.within passes.position_is passes.total_is)

-- The number of hunks stands after the first two longwords.
pub hunks_in : (bytes : List ℕ) (t : List TableEntry) (rest : List ℕ) → IsHeaderTable t → bytes ≡ header_bytes t ++ rest → (get_or (longs bytes) 2 0 ≡ length t) × (12 ≤ length bytes)
hunks_in bytes t rest is e =
    let split : longs bytes ≡ header_words t ++ longs rest = ap longs e ∙ longs-bytes_of (header_words t) rest (header_longs t is) in
    (ap (λ (l : List ℕ). get_or l 2 0) split, omega (arith, ap length split, length-longs bytes))
