-- The runs of a load file, in which nothing is between two blocks, and the last place so far.
use Rattle.std.proofs.Common.{◌≡◌, ℕ, zero, suc, ◌+◌, ◌<◌, ◌≤◌, List, length, get_or, take, refl, sym, ap, ◌∙◌, arith, Option, Some, None}
use Rattle.std.specs.Prelude.{IfNone, IfSome}
use Rattle.hunk_grammar.specs.Positions as load
use Rattle.hunk_grammar.specs.declared.phase.Phase.TheVariants as phases
use Rattle.hunk_grammar.specs.declared.position.{OpenHunk.OpenHunk, Position.Position}
use Rattle.hunk_grammar.specs.declared.position.Position.TheVariants as positions
use Rattle.hunk_files.specs.Machines.{load_at}
use Rattle.hunk_c.specs.FrontPlaces.{FindsNone, IsLast, PassesRows, find_hunk, hunk_between, longest_run, pass_longest_run}
use Rattle.hunk_c.specs.declared.front.LoadPlace.{LoadPlace}
use Rattle.hunk_c.proofs.LastPlaces.{FindsNoneIn, last_here, still_last, still_none}
use Rattle.hunk_c.proofs.PassedRows.{none_before, none_in_rows, rows_on, rows_to}
use Rattle.hunk_c.proofs.PassedRuns.{HasRuns, none_to, none_within, past_stride}

-- ---- the last place so far

abbrev pub LastHunk : List ℕ → ℕ → Option LoadPlace → Type 0
LastHunk ws at None = FindsNone (find_hunk ws) at
LastHunk ws at (Some p) = IsLast (find_hunk ws) at p.longs p.hunk

pub still_hunk : (ws : List ℕ) (from end : ℕ) (last : Option LoadPlace) → from ≤ end → LastHunk ws from last → FindsNoneIn (find_hunk ws) from end → LastHunk ws end last
still_hunk ws from end None less h none = still_none (find_hunk ws) from end h none
still_hunk ws from end (Some p) less h none = still_last (find_hunk ws) from end p.longs p.hunk less h none

-- ---- runs

one_less : (p : Position) (left w : ℕ) → longest_run p ≡ suc left → (longest_run (load.step p w) ≡ left) × (pass_longest_run (load.step p w) ≡ pass_longest_run p)
one_less (positions.Body o (phases.Content longs zero)) left w e = (omega (arith, e), refl)
one_less (positions.Body o (phases.Content longs (suc owed))) left w e = (omega (arith, e), refl)
one_less (positions.Body o (phases.Payload zero)) left w e = (omega (arith, e), refl)
one_less (positions.Body o (phases.Payload (suc owed))) left w e = (omega (arith, e), refl)
one_less (positions.Body o (phases.Offset target zero)) left w e = (omega (arith, e), refl)
one_less (positions.Body o (phases.Offset target (suc owed))) left w e = (omega (arith, e), refl)
one_less (positions.Body o (phases.Symbol zero)) left w e = (omega (arith, e), refl)
one_less (positions.Body o (phases.Symbol (suc owed))) left w e = (omega (arith, e), refl)
one_less (positions.Body o (phases.ExtFront zero)) left w e = (omega (arith, e), refl)
one_less (positions.Body o (phases.ExtFront (suc owed))) left w e = (omega (arith, e), refl)
one_less (positions.Body o (phases.ExtRest zero)) left w e = (omega (arith, e), refl)
one_less (positions.Body o (phases.ExtRest (suc owed))) left w e = (omega (arith, e), refl)
one_less _ left w e = absurd (omega (arith, e))

none_passed : (p : Position) → longest_run p ≡ 0 → p ≡ pass_longest_run p
none_passed (positions.Body o (phases.Content longs owed)) e = absurd (omega (arith, e))
none_passed (positions.Body o (phases.Payload owed)) e = absurd (omega (arith, e))
none_passed (positions.Body o (phases.Offset target owed)) e = absurd (omega (arith, e))
none_passed (positions.Body o (phases.Symbol owed)) e = absurd (omega (arith, e))
none_passed (positions.Body o (phases.ExtFront owed)) e = absurd (omega (arith, e))
none_passed (positions.Body o (phases.ExtRest owed)) e = absurd (omega (arith, e))
none_passed _ e = refl

none_between : (p : Position) (left : ℕ) → longest_run p ≡ suc left → hunk_between p ≡ None
none_between (positions.Body o phases.FirstBlock) left e = absurd (omega (arith, e))
none_between (positions.Body o phases.BlockWord) left e = absurd (omega (arith, e))
none_between _ left e = refl

pub load_runs : HasRuns load.step longest_run pass_longest_run hunk_between
load_runs = record { one = one_less; none = none_passed; inside = none_between }

-- ---- the walk

module _ (ws : List ℕ) (at end : ℕ) (p : Position) (last : Option LoadPlace) (here : p ≡ load_at (take at ws)) (h : LastHunk ws at last) (inside : at < end) (whole : end ≤ length ws)
    (w : ℕ) (word : w ≡ get_or ws at 0) (n : ℕ) (n_is : n ≡ longest_run (load.step p w)) (after : Position) (after_is : after ≡ pass_longest_run (load.step p w)) where
  all : at < length ws
  all = omega (arith, inside, whole)

  -- The run ends beyond.
  pub hunk_within : end < at + 1 + n → LastHunk ws end last
  hunk_within less =
      still_hunk ws at end last (omega (arith, inside)) h
      (none_within load.step longest_run pass_longest_run hunk_between load_runs positions.FirstLong ws at p here all w word n n_is after after_is end less whole)

  -- It is passed, and rows of the table after it.
  module _ (less : at + 1 + n ≤ end) (to : ℕ) (next : Position) (rows : PassesRows ws (at + 1 + n) after end to next) where
    abbrev from : ℕ
    from = at + 1 + n

    ends : after ≡ load_at (take from ws)
    ends = past_stride load.step longest_run pass_longest_run hunk_between load_runs positions.FirstLong ws at p here all w word n n_is after after_is (omega (arith, less, whole))

    pub leads_on : next ≡ load_at (take to ws)
    leads_on = rows_to ws from end after ends whole to next rows

    pub at_hunk : (o : OpenHunk) → hunk_between next ≡ Some o → LastHunk ws to (Some (record { longs = to; hunk = o }))
    at_hunk o e = last_here (find_hunk ws) to o (ap hunk_between (sym leads_on) ∙ e)

    pub at_none : hunk_between next ≡ None → LastHunk ws to last
    at_none e =
        let run = none_to load.step longest_run pass_longest_run hunk_between load_runs positions.FirstLong ws at p here all w word n n_is after after_is (omega (arith, less, whole)) (none_before ws from end after to next rows e) in
        still_hunk ws from to last (rows_on ws from end after to next less rows).0 (still_hunk ws at from last (omega arith) h run)
        (none_in_rows ws from end after ends whole to next rows)

-- ---- what the walk comes to

pub last_found : (ws : List ℕ) (end : ℕ) (last : Option LoadPlace) → LastHunk ws end last → IfSome last (λ p. IsLast (find_hunk ws) end p.longs p.hunk)
last_found ws end None h = tt
last_found ws end (Some p) h = h

pub last_none : (ws : List ℕ) (end : ℕ) (last : Option LoadPlace) → LastHunk ws end last → IfNone last (FindsNone (find_hunk ws) end)
last_none ws end None h = h
last_none ws end (Some p) h = tt
