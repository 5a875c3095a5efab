-- Walks that pass over runs: where they lead, and that nothing is found within a run.
use Rattle.std.proofs.Common.{◌≡◌, ℕ, suc, ◌+◌, ◌-◌, ◌<◌, ◌≤◌, List, [], ◌∷◌, length, get_or, take, drop, length-drop, length-take-le, sym, ap, ◌∙◌, arith, Option, None, inl, inr}
use Rattle.std.proofs.lemmas.Bool.{cases_lt}
use Rattle.hunk_files.specs.Machines.{leads_to}
use Rattle.hunk_c.proofs.LastPlaces.{FindsNoneIn, more, one_more}

-- Each longword of a run leaves one less, and what comes after it; at none of them is anything found.
pub record HasRuns {Pos A : Type 0} (step : Pos → ℕ → Pos) (run : Pos → ℕ) (past : Pos → Pos) (between : Pos → Option A) : Type 0 where
  pub one : (p : Pos) (left w : ℕ) → run p ≡ suc left → (run (step p w) ≡ left) × (past (step p w) ≡ past p)
  pub none : (p : Pos) → run p ≡ 0 → p ≡ past p
  pub inside : (p : Pos) (left : ℕ) → run p ≡ suc left → between p ≡ None

module _ {Pos A : Type 0} (step : Pos → ℕ → Pos) (run : Pos → ℕ) (past : Pos → Pos) (between : Pos → Option A) (h : HasRuns step run past between) where
  past_run : (p : Pos) (ws : List ℕ) → length ws ≡ run p → leads_to step p ws ≡ past p
  past_run p [] e = h.none p (omega (arith, e))
  past_run p (w ∷ ws) e =
      let one = h.one p (length ws) w (omega (arith, e)) in
      past_run (step p w) ws (omega (arith, one.0)) ∙ one.1

  none_in_run : (p : Pos) (ws : List ℕ) → length ws < run p → between (leads_to step p ws) ≡ None
  none_in_run p [] l = h.inside p (run p - 1) (omega (arith, l))
  none_in_run p (w ∷ ws) l =
      let one = h.one p (run p - 1) w (omega (arith, l)) in
      none_in_run (step p w) ws (omega (arith, l, one.0))

  -- A stride: the longword at a place, and the run behind it.
  module _ (start : Pos) (ws : List ℕ) (at : ℕ) (p : Pos) (here : p ≡ leads_to step start (take at ws)) (inside : at < length ws) (w : ℕ) (word : w ≡ get_or ws at 0) (n : ℕ) (n_is : n ≡ run (step p w)) (after : Pos) (after_is : after ≡ past (step p w)) where
    abbrev find : ℕ → Option A
    find m = between (leads_to step start (take m ws))

    -- after some of the run
    on : (k : ℕ) → leads_to step start (take (at + 1 + k) ws) ≡ leads_to step (step p w) (take k (drop (at + 1) ws))
    on k =
        more step start ws (at + 1) k
        ∙ ap (λ (q : Pos). leads_to step q (take k (drop (at + 1) ws)))
        (one_more step start ws at inside ∙ ap (λ (q : Pos). step q (get_or ws at 0)) (sym here) ∙ ap (step p) (sym word))

    size : (k : ℕ) → at + 1 + k ≤ length ws → length (take k (drop (at + 1) ws)) ≡ k
    size k l = length-take-le k (drop (at + 1) ws) (omega (arith, length-drop (at + 1) ws, l))

    pub past_stride : at + 1 + n ≤ length ws → after ≡ leads_to step start (take (at + 1 + n) ws)
    past_stride l = after_is ∙ sym (on n ∙ past_run (step p w) (take n (drop (at + 1) ws)) (size n l ∙ n_is))

    -- Before its end nothing is found.
    pub none_within : (end : ℕ) → end < at + 1 + n → end ≤ length ws → FindsNoneIn find at end
    none_within end less whole m from to =
        let k : ℕ = m - (at + 1) in
        let sum : m ≡ at + 1 + k = omega (arith, from) in
        let all = size k (omega (arith, sum, to, whole)) in
        ap find sum ∙ ap between (on k) ∙ none_in_run (step p w) (take k (drop (at + 1) ws)) (omega (arith, all, sum, to, less, n_is))

    -- Nor at its end, where none is there.
    pub none_to : at + 1 + n ≤ length ws → between after ≡ None → FindsNoneIn find at (at + 1 + n)
    none_to whole none m from to = elim (cases_lt m (at + 1 + n)) [
      | inl before ↦ none_within m before (omega (arith, before, whole)) m from (omega arith)
      | inr beyond ↦ let same : m ≡ at + 1 + n = omega (arith, to, beyond) in ap find same ∙ ap between (sym (past_stride whole)) ∙ none
    ]
