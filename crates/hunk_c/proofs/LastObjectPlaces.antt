-- The runs of an object file, in which nothing is between two blocks, and the last place so far.
use Rattle.std.proofs.Common.{◌≡◌, ℕ, zero, suc, ◌+◌, ◌<◌, ◌≤◌, List, length, get_or, take, refl, sym, ap, ◌∙◌, arith, Option, Some, None}
use Rattle.std.specs.Prelude.{IfNone, IfSome}
use Rattle.hunk_grammar.specs.ObjectPositions as object
use Rattle.hunk_grammar.specs.declared.phase.Phase.TheVariants as phases
use Rattle.hunk_grammar.specs.declared.object_position.{ObjectPosition.ObjectPosition, WordPlace.WordPlace}
use Rattle.hunk_grammar.specs.declared.object_position.ObjectPosition.TheVariants as places
use Rattle.hunk_grammar.specs.declared.object_position.WordPlace.TheVariants.{BeforeUnits}
use Rattle.hunk_files.specs.Machines.{object_at}
use Rattle.hunk_c.specs.FrontPlaces.{FindsNone, IsLast, find_place, place_between}
use Rattle.hunk_c.specs.declared.front.ObjectPlace.{ObjectPlace}
use Rattle.hunk_c.proofs.LastPlaces.{FindsNoneIn, last_here, still_last, still_none}
use Rattle.hunk_c.proofs.PassedRuns.{HasRuns, none_to, none_within, past_stride}

-- ---- the last place so far

abbrev pub LastPlace : List ℕ → ℕ → Option ObjectPlace → Type 0
LastPlace ws at None = FindsNone (find_place ws) at
LastPlace ws at (Some p) = IsLast (find_place ws) at p.longs p.place

still_place : (ws : List ℕ) (from end : ℕ) (last : Option ObjectPlace) → from ≤ end → LastPlace ws from last → FindsNoneIn (find_place ws) from end → LastPlace ws end last
still_place ws from end None less h none = still_none (find_place ws) from end h none
still_place ws from end (Some p) less h none = still_last (find_place ws) from end p.longs p.place less h none

-- ---- runs

one_less : (p : ObjectPosition) (left w : ℕ) → object.run p ≡ suc left → (object.run (object.step p w) ≡ left) × (object.pass_run (object.step p w) ≡ object.pass_run p)
one_less (places.UnitName zero) left w e = (omega (arith, e), refl)
one_less (places.UnitName (suc owed)) left w e = (omega (arith, e), refl)
one_less (places.Block next (phases.Content longs zero)) left w e = (omega (arith, e), refl)
one_less (places.Block next (phases.Content longs (suc owed))) left w e = (omega (arith, e), refl)
one_less (places.Block next (phases.Payload zero)) left w e = (omega (arith, e), refl)
one_less (places.Block next (phases.Payload (suc owed))) left w e = (omega (arith, e), refl)
one_less (places.Block next (phases.Offset target zero)) left w e = (omega (arith, e), refl)
one_less (places.Block next (phases.Offset target (suc owed))) left w e = (omega (arith, e), refl)
one_less (places.Block next (phases.Symbol zero)) left w e = (omega (arith, e), refl)
one_less (places.Block next (phases.Symbol (suc owed))) left w e = (omega (arith, e), refl)
one_less (places.Block next (phases.ExtFront zero)) left w e = (omega (arith, e), refl)
one_less (places.Block next (phases.ExtFront (suc owed))) left w e = (omega (arith, e), refl)
one_less (places.Block next (phases.ExtRest zero)) left w e = (omega (arith, e), refl)
one_less (places.Block next (phases.ExtRest (suc owed))) left w e = (omega (arith, e), refl)
one_less _ left w e = absurd (omega (arith, e))

none_passed : (p : ObjectPosition) → object.run p ≡ 0 → p ≡ object.pass_run p
none_passed (places.UnitName owed) e = absurd (omega (arith, e))
none_passed (places.Block next (phases.Content longs owed)) e = absurd (omega (arith, e))
none_passed (places.Block next (phases.Payload owed)) e = absurd (omega (arith, e))
none_passed (places.Block next (phases.Offset target owed)) e = absurd (omega (arith, e))
none_passed (places.Block next (phases.Symbol owed)) e = absurd (omega (arith, e))
none_passed (places.Block next (phases.ExtFront owed)) e = absurd (omega (arith, e))
none_passed (places.Block next (phases.ExtRest owed)) e = absurd (omega (arith, e))
none_passed _ e = refl

none_between : (p : ObjectPosition) (left : ℕ) → object.run p ≡ suc left → place_between p ≡ None
none_between (places.Word place) left e = absurd (omega (arith, e))
none_between _ left e = refl

object_runs : HasRuns object.step object.run object.pass_run place_between
object_runs = record { one = one_less; none = none_passed; inside = none_between }

-- ---- the walk

module _ (ws : List ℕ) (at end : ℕ) (p : ObjectPosition) (last : Option ObjectPlace) (here : p ≡ object_at (take at ws)) (h : LastPlace ws at last) (inside : at < end) (whole : end ≤ length ws)
    (w : ℕ) (word : w ≡ get_or ws at 0) (n : ℕ) (n_is : n ≡ object.run (object.step p w)) (after : ObjectPosition) (after_is : after ≡ object.pass_run (object.step p w)) where
  all : at < length ws
  all = omega (arith, inside, whole)

  -- The run ends beyond.
  pub place_within : end < at + 1 + n → LastPlace ws end last
  place_within less =
      still_place ws at end last (omega (arith, inside)) h
      (none_within object.step object.run object.pass_run place_between object_runs (places.Word BeforeUnits) ws at p here all w word n n_is after after_is end less whole)

  -- It is passed.
  module _ (less : at + 1 + n ≤ end) where
    pub leads_on : after ≡ object_at (take (at + 1 + n) ws)
    leads_on = past_stride object.step object.run object.pass_run place_between object_runs (places.Word BeforeUnits) ws at p here all w word n n_is after after_is (omega (arith, less, whole))

    pub at_place : (q : WordPlace) → place_between after ≡ Some q → LastPlace ws (at + 1 + n) (Some (record { longs = at + 1 + n; place = q }))
    at_place q e = last_here (find_place ws) (at + 1 + n) q (ap place_between (sym leads_on) ∙ e)

    pub at_none : place_between after ≡ None → LastPlace ws (at + 1 + n) last
    at_none e =
        still_place ws at (at + 1 + n) last (omega arith) h
        (none_to object.step object.run object.pass_run place_between object_runs (places.Word BeforeUnits) ws at p here all w word n n_is after after_is (omega (arith, less, whole)) e)

-- ---- what the walk comes to

pub last_found : (ws : List ℕ) (end : ℕ) (last : Option ObjectPlace) → LastPlace ws end last → IfSome last (λ p. IsLast (find_place ws) end p.longs p.place)
last_found ws end None h = tt
last_found ws end (Some p) h = h

pub last_none : (ws : List ℕ) (end : ℕ) (last : Option ObjectPlace) → LastPlace ws end last → IfNone last (FindsNone (find_place ws) end)
last_none ws end None h = h
last_none ws end (Some p) h = tt
