-- Rows of the table that are passed over: where they lead, and that no block ends within them.
use Rattle.std.proofs.Common.{◌≡◌, ℕ, zero, suc, ◌+◌, ◌-◌, ◌≤◌, Bool, List, length, get_or, take, sym, ap, ◌∙◌, arith, None, if◌then◌else◌}
use Rattle.hunk_grammar.specs.Positions as load
use Rattle.hunk_grammar.specs.declared.position.Position.{Position}
use Rattle.hunk_grammar.specs.declared.position.Position.TheVariants as positions
use Rattle.hunk_files.specs.Machines.{load_at}
use Rattle.hunk_c.specs.FrontPlaces.{AreShort, PassesRows, find_hunk, hunk_between, no_rows, rows}
use Rattle.hunk_c.proofs.LastPlaces.{FindsNoneIn, one_more}

module _ (ws : List ℕ) (at : ℕ) where
  -- Each row leads to the next.
  rows_lead : (hunks owed : ℕ) → positions.SizeWord hunks owed ≡ load_at (take at ws) → (count : ℕ) → count ≤ owed → at + count ≤ length ws → AreShort ws at count →
      load_at (take (at + count) ws) ≡ positions.SizeWord hunks (owed - count)
  rows_lead hunks owed here zero few inside short =
      let none : at + 0 ≡ at = omega arith in
      let all : owed ≡ owed - 0 = omega arith in
      ap (λ (n : ℕ). load_at (take n ws)) none ∙ sym here ∙ ap (positions.SizeWord hunks) all
  rows_lead hunks owed here (suc count) few inside short =
      let w = get_or ws (at + count) 0 in
      let before = rows_lead hunks owed here count (omega (arith, few)) (omega (arith, inside)) (λ i l. short i (omega (arith, l))) in
      let one : at + suc count ≡ at + count + 1 = omega arith in
      let left : owed - count ≡ suc (owed - suc count) = omega (arith, few) in
      let next : Bool → Position =
      λ b. if b then positions.Attributes hunks w (suc (owed - suc count)) else positions.SizeWord hunks (owed - suc count) in
      ap (λ (n : ℕ). load_at (take n ws)) one
      ∙ one_more load.step positions.FirstLong ws (at + count) (omega (arith, inside))
      ∙ ap (λ (q : Position). load.step q w) (before ∙ ap (positions.SizeWord hunks) left)
      ∙ ap next (short count (omega arith))

  module _ (end : ℕ) (p : Position) where
    pub rows_on : (to : ℕ) (q : Position) → at ≤ end → PassesRows ws at p end to q → (at ≤ to) × (to ≤ end)
    rows_on _ _ less no_rows = (omega arith, less)
    rows_on _ _ less (rows hunks owed count is few inside short) = (omega arith, inside)

    -- Before rows stands a row, at which no block ends.
    pub none_before : (to : ℕ) (q : Position) → PassesRows ws at p end to q → hunk_between q ≡ None → hunk_between p ≡ None
    none_before _ _ no_rows e = e
    none_before _ _ (rows hunks owed count is few inside short) e = ap hunk_between is

    module _ (here : p ≡ load_at (take at ws)) (whole : end ≤ length ws) where
      pub rows_to : (to : ℕ) (q : Position) → PassesRows ws at p end to q → q ≡ load_at (take to ws)
      rows_to _ _ no_rows = here
      rows_to _ _ (rows hunks owed count is few inside short) = sym (rows_lead hunks owed (sym is ∙ here) count few (omega (arith, inside, whole)) short)

      pub none_in_rows : (to : ℕ) (q : Position) → PassesRows ws at p end to q → FindsNoneIn (find_hunk ws) at to
      none_in_rows _ _ no_rows m from beyond = absurd (omega (arith, from, beyond))
      none_in_rows _ _ (rows hunks owed count is few inside short) m from before =
          let k : ℕ = m - at in
          let sum : m ≡ at + k = omega (arith, from) in
          ap (find_hunk ws) sum
          ∙ ap hunk_between (rows_lead hunks owed (sym is ∙ here) k (omega (arith, few, before)) (omega (arith, inside, whole, before, sum)) (λ i l. short i (omega (arith, l, before))))
