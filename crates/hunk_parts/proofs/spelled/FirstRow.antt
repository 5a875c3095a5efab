-- The rows before the first one at fault begin some file, and with that one begin none.
use Rattle.std.proofs.Common.{◌≡◌, ℕ, zero, suc, ◌+◌, ◌<◌, ◌≤◌, Bool, true, false, cond, ◌||◌, List, [], ◌∷◌, ◌++◌, length, map, take, refl, sym, ap, subst, ◌∙◌, arith, Option, Some, None}
use Rattle.hunk_parts.specs.PartFaults.{PartPlace, Refusal, fault_at, is_before_units, is_open, next_fault, refuse_row, rows_fault, step_row}
use Rattle.hunk_parts.specs.Parts.{FilePart, seen}
use Rattle.hunk_parts.specs.declared.part_row.PartRow.{PartRow}
use Rattle.hunk_parts.specs.declared.row_fault.RowFault.{RowFault}
use Rattle.hunk_parts.proofs.spelled.Passing.{PassFrom}

-- ---- the number of the row

pub end_row : (b : Bool) (f g : RowFault) → ◌≡◌ {A = Option RowFault} (cond b (Some f) None) (Some g) → f.row ≡ g.row
end_row true f g e = let same : f ≡ g = cc in ap (λ (x : RowFault). x.row) same
end_row false f g e = absurd cc

-- A row is refused, or the fault is one of the rest.
pub data Faults (bytes : List ℕ) (p : PartPlace) (number : ℕ) (r : PartRow) (rows : List PartRow) (f : RowFault) : Type 0 where
  Here : (x : Refusal) → refuse_row p (seen bytes r) ≡ Some x → f.row ≡ number → Faults bytes p number r rows f
  Later : (q : FilePart) → seen bytes r ≡ Some q → refuse_row p (Some q) ≡ None → rows_fault bytes (step_row p (Some q)) (number + 1) rows ≡ Some f → Faults bytes p number r rows f

by_row : (bytes : List ℕ) (p : PartPlace) (number : ℕ) (r : PartRow) (rows : List PartRow) (f : RowFault) (s : Option FilePart) (o : Option Refusal) → seen bytes r ≡ s → refuse_row p s ≡ o →
    next_fault (rows_fault bytes (step_row p s) (number + 1) rows) o p r number ≡ Some f → Faults bytes p number r rows f
by_row bytes p number r rows f None None is ok e = absurd cc
by_row bytes p number r rows f s (Some x) is ok e = let same : fault_at p r number x ≡ f = cc in Here x (ap (refuse_row p) is ∙ ok) (sym (ap (λ (y : RowFault). y.row) same))
by_row bytes p number r rows f (Some q) None is ok e = Later q is ok e

pub faults : (bytes : List ℕ) (p : PartPlace) (number : ℕ) (r : PartRow) (rows : List PartRow) (f : RowFault) → rows_fault bytes p number (r ∷ rows) ≡ Some f → Faults bytes p number r rows f
faults bytes p number r rows f e = by_row bytes p number r rows f (seen bytes r) (refuse_row p (seen bytes r)) refl refl e

pub at_least : (bytes : List ℕ) (p : PartPlace) (number : ℕ) (rows : List PartRow) (f : RowFault) → rows_fault bytes p number rows ≡ Some f → number ≤ f.row
at_least bytes p number [] f e = omega (arith, end_row (is_open p.place || is_before_units p.place) _ f e)
at_least bytes p number (r ∷ rows) f e = later number f (faults bytes p number r rows f e) (λ q more. at_least bytes (step_row p (Some q)) (number + 1) rows f more)
  where
    later : (number : ℕ) (f : RowFault) → Faults bytes p number r rows f → ((q : FilePart) → rows_fault bytes (step_row p (Some q)) (number + 1) rows ≡ Some f → number + 1 ≤ f.row) → number ≤ f.row
    later number f (Here x ok is) again = omega (arith, is)
    later number f (Later q is ok more) again = omega (arith, again q more)

-- ---- with the row at fault no file begins

-- the parts of these rows and others pass from here on
pub record GoesOn (bytes : List ℕ) (p : PartPlace) (rows : List PartRow) (count : ℕ) : Type 0 where
  pub qs : List FilePart
  pub more : List FilePart
  pub seen_are : map Some qs ≡ map (seen bytes) (take count rows) ++ map Some more
  pub pass : PassFrom p qs

first_passes : (bytes : List ℕ) (p : PartPlace) (r : PartRow) (rows : List PartRow) (count : ℕ) (x : Refusal) → refuse_row p (seen bytes r) ≡ Some x → GoesOn bytes p (r ∷ rows) (suc count) → ⊥
first_passes bytes p r rows count x refused g = by_parts g.qs g.seen_are g.pass
  where
    by_parts : (qs : List FilePart) → map Some qs ≡ seen bytes r ∷ (map (seen bytes) (take count rows) ++ map Some g.more) → PassFrom p qs → ⊥
    by_parts [] e pass = cc
    by_parts (q ∷ qs) e pass =
        let same : Some q ≡ seen bytes r = cc in
        let clash : refuse_row p (seen bytes r) ≡ None = ap (refuse_row p) (sym same) ∙ pass.0 in
        let both : Some x ≡ None = sym refused ∙ clash in
        cc

rest_goes : (bytes : List ℕ) (p : PartPlace) (r : PartRow) (rows : List PartRow) (count : ℕ) (q : FilePart) → seen bytes r ≡ Some q → GoesOn bytes p (r ∷ rows) (suc count) → GoesOn bytes (step_row p (Some q)) rows count
rest_goes bytes p r rows count q is g = by_parts g.qs g.seen_are g.pass
  where
    by_parts : (qs : List FilePart) → map Some qs ≡ seen bytes r ∷ (map (seen bytes) (take count rows) ++ map Some g.more) → PassFrom p qs → GoesOn bytes (step_row p (Some q)) rows count
    by_parts [] e pass = absurd cc
    by_parts (s ∷ qs) e pass =
        let first : Some s ≡ seen bytes r = cc in
        let same : s ≡ q = let both : Some s ≡ Some q = first ∙ is in cc in
        let rest : map Some qs ≡ map (seen bytes) (take count rows) ++ map Some g.more = cc in
        record { qs = qs; more = g.more; seen_are = rest; pass = subst (λ (t : FilePart). PassFrom (step_row p (Some t)) qs) same pass.1 }

pub none_begins : (bytes : List ℕ) (p : PartPlace) (number : ℕ) (rows : List PartRow) (f : RowFault) → rows_fault bytes p number rows ≡ Some f → (i : ℕ) → f.row ≡ number + i → i < length rows → GoesOn bytes p rows (suc i) → ⊥
none_begins bytes p number [] f e i is below g = absurd (omega (arith, below))
none_begins bytes p number (r ∷ rows) f e i is below g =
    by_fault (faults bytes p number r rows f e) i is below g (λ q k more row under goes. none_begins bytes (step_row p (Some q)) (number + 1) rows f more k row under goes)
  where
    by_fault : Faults bytes p number r rows f → (i : ℕ) → f.row ≡ number + i → i < length (r ∷ rows) → GoesOn bytes p (r ∷ rows) (suc i) →
        ((q : FilePart) (k : ℕ) → rows_fault bytes (step_row p (Some q)) (number + 1) rows ≡ Some f → f.row ≡ number + 1 + k → k < length rows → GoesOn bytes (step_row p (Some q)) rows (suc k) → ⊥) → ⊥
    by_fault (Here x refused row) i is below g again = first_passes bytes p r rows i x refused g
    by_fault (Later q seen_is ok more) zero is below g again = omega (arith, is, at_least bytes (step_row p (Some q)) (number + 1) rows f more)
    by_fault (Later q seen_is ok more) (suc k) is below g again = again q k more (omega (arith, is)) (omega (arith, below)) (rest_goes bytes p r rows (suc k) q seen_is g)
