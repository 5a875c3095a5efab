-- The rows before the first one at fault begin some file.
use Rattle.std.proofs.Common.{◌≡◌, ℕ, zero, suc, ◌+◌, Bool, true, false, cond, ◌||◌, List, [], ◌∷◌, ◌++◌, length, map, take, refl, sym, ap₂, subst, arith, Option, Some, None}
use Rattle.std.specs.Prelude.{nat_lt}
use Rattle.std.specs.List.{AllByRecursion, filter}
use Rattle.hunk_words.specs.Bits.{kind}
use Rattle.hunk_words.specs.declared.block_word.Kind.{Kind}
use Rattle.hunk_grammar.specs.ObjectRoles.{after_block}
use Rattle.hunk_grammar.specs.Standings.{BlockStanding, is_ending, standing_of_kind}
use Rattle.hunk_grammar.specs.declared.object_position.WordPlace.{WordPlace}
use Rattle.hunk_grammar.specs.declared.object_position.WordPlace.TheVariants.{BeforeUnits, BetweenHunks, InHunk}
use Rattle.hunk_parts.specs.PartFaults.{PartPlace, is_before_units, is_hunk_row, is_in_place, is_open, place_after, refuse_far, refuse_part, refuse_row, rows_fault, size_of_part, step_row}
use Rattle.hunk_parts.specs.Parts.{FilePart, part, seen}
use Rattle.hunk_parts.specs.RowsText.{is_hunk}
use Rattle.hunk_parts.specs.declared.part_row.PartRow.{PartRow}
use Rattle.hunk_parts.specs.declared.row_fault.RowFault.{RowFault}
use Rattle.hunk_parts.proofs.RowSizes.{seen_part}
use Rattle.hunk_parts.proofs.spelled.BlocksInFront.{IsListAt}
use Rattle.hunk_parts.proofs.spelled.Completing.{Counts, IsFresh, completes}
use Rattle.hunk_parts.proofs.spelled.FirstRow.{Faults, Here, Later, at_least, end_row, faults}
use Rattle.hunk_parts.proofs.spelled.PartKinds.{by_what, list_stays, other_refused}
use Rattle.hunk_parts.proofs.spelled.PartTests.{both_pass, in_its_place, some_hunks}
use Rattle.hunk_parts.proofs.spelled.Passing.{PassFrom, spot}
use Rattle.hunk_parts.proofs.spelled.SeenLongs.{kept}
use Rattle.hunk_parts.proofs.spelled.Tails.{HasLongs}

-- ---- after a part that is not refused a file has begun

begun : (place : WordPlace) (s : BlockStanding) (b : Bool) → is_before_units (cond b BetweenHunks (after_block place s)) ≡ true → ⊥
begun place s true e = cc
begun place s false e = cc

open_begun : (place : WordPlace) → is_open place ≡ true → is_before_units place ≡ true → ⊥
open_begun BeforeUnits here e = cc
open_begun BetweenHunks here e = cc
open_begun (InHunk has) here e = cc

module _ (n longs : ℕ) (place : WordPlace) (list : Option Kind) (word value : ℕ) (content offsets : List ℕ) where
  abbrev q : ℕ → FilePart
  q what = part what word value content offsets

  abbrev HasBegun : ℕ → Type 0
  HasBegun what = refuse_row (spot (suc n) longs place list) (Some (q what)) ≡ None → is_before_units (place_after place (size_of_part (q what))) ≡ true → ⊥

  is_here : (b : Bool) → cond (nat_lt 0 (suc n)) (is_open place) b ≡ true → is_open place ≡ true
  is_here b e = rw (some_hunks n) at e

  item_begun : (what : ℕ) → is_in_place (spot (suc n) longs place list) (size_of_part (q what)) ≡ true → is_before_units place ≡ true → ⊥
  item_begun what placed e = open_begun place (is_here _ placed) e

  has_begun : (what : ℕ) → HasBegun what
  has_begun = by_what HasBegun
      (λ e f. cc)
      (λ e f. cc)
      (λ e f. begun place (standing_of_kind (kind word)) (is_ending (standing_of_kind (kind word))) f)
      (λ e f. item_begun 4 (in_its_place (spot (suc n) longs place list) (size_of_part (q 4)) (both_pass (refuse_part (spot (suc n) longs place list) (size_of_part (q 4))) (refuse_far (spot (suc n) longs place list) (q 4)) e).0).0 f)
      (λ e f. item_begun 5 (in_its_place (spot (suc n) longs place list) (size_of_part (q 5)) (both_pass (refuse_part (spot (suc n) longs place list) (size_of_part (q 5))) (refuse_far (spot (suc n) longs place list) (q 5)) e).0).0 f)
      (λ e f. item_begun 6 (in_its_place (spot (suc n) longs place list) (size_of_part (q 6)) (both_pass (refuse_part (spot (suc n) longs place list) (size_of_part (q 6))) (refuse_far (spot (suc n) longs place list) (q 6)) e).0).0 f)
      (λ what o e f. other_refused (spot (suc n) longs place list) what word value content offsets o e)

fresh_after : (hunks longs : ℕ) (place : WordPlace) (list : Option Kind) (q : FilePart) (want : ℕ) → refuse_row (spot hunks longs place list) (Some q) ≡ None → IsFresh hunks (place_after place (size_of_part q)) want
fresh_after zero longs place list q want ok = tt
fresh_after (suc n) longs place list q want ok = λ e. absurd (has_begun n longs place list q.word q.value q.content q.offsets q.what ok e)

-- ---- the parts before the fault, and more

pub record Goes (bytes : List ℕ) (p : PartPlace) (rows : List PartRow) (count : ℕ) : Type 0 where
  pub front : List FilePart
  pub seen_are : map (seen bytes) (take count rows) ≡ map Some front
  pub more : List FilePart
  pub are_longs : AllByRecursion HasLongs more
  pub pass : PassFrom p (front ++ more)
  pub hunks : Counts p.hunks (length (filter is_hunk (front ++ more))) (length (filter is_hunk_row rows))

here : (bytes : List ℕ) (p : PartPlace) (rows : List PartRow) → IsListAt p.place p.list → IsFresh p.hunks p.place (length (filter is_hunk_row rows)) → Goes bytes p rows 0
here bytes p rows list fresh =
    let c = completes p.hunks p.longs p.place p.list (length (filter is_hunk_row rows)) list fresh in
    record { front = []; seen_are = refl; more = c.more; are_longs = c.are_longs; pass = c.pass; hunks = c.count }

more_hunks : (hunks : ℕ) (bytes : List ℕ) (r : PartRow) (rows : List PartRow) (q : FilePart) (qs : List FilePart) → seen bytes r ≡ Some q → Counts hunks (length (filter is_hunk qs)) (length (filter is_hunk_row rows)) →
    Counts hunks (length (filter is_hunk (q ∷ qs))) (length (filter is_hunk_row (r ∷ rows)))
more_hunks zero bytes r rows q qs is h = tt
more_hunks (suc n) bytes r rows q qs is h =
    subst (λ (x : FilePart). length (filter is_hunk (x ∷ qs)) ≡ length (filter is_hunk_row (r ∷ rows))) (seen_part bytes r q is) (kept (is_hunk_row r) _ (filter is_hunk qs) r (filter is_hunk_row rows) h)

after_row : (bytes : List ℕ) (p : PartPlace) (r : PartRow) (rows : List PartRow) (q : FilePart) (count : ℕ) → seen bytes r ≡ Some q → refuse_row p (Some q) ≡ None → Goes bytes (step_row p (Some q)) rows count → Goes bytes p (r ∷ rows) (suc count)
after_row bytes p r rows q count is ok g = record {
  front = q ∷ g.front;
  seen_are = ap₂ (λ (x : Option FilePart) (xs : List (Option FilePart)). x ∷ xs) is g.seen_are;
  more = g.more;
  are_longs = g.are_longs;
  pass = (ok, g.pass);
  hunks = more_hunks p.hunks bytes r rows q (g.front ++ g.more) is g.hunks;
}

end_goes : (bytes : List ℕ) (p : PartPlace) (i number row : ℕ) → IsListAt p.place p.list → IsFresh p.hunks p.place 0 → row ≡ number → row ≡ number + i → Goes bytes p [] i
end_goes bytes p i number row list fresh at is = let none : 0 ≡ i = omega (arith, at, is) in subst (Goes bytes p []) none (here bytes p [] list fresh)

-- The rows before the one at fault are the parts of some file, with others after them.
pub some_begins : (bytes : List ℕ) (p : PartPlace) (number : ℕ) (rows : List PartRow) (f : RowFault) → rows_fault bytes p number rows ≡ Some f → IsListAt p.place p.list → IsFresh p.hunks p.place (length (filter is_hunk_row rows)) →
    (i : ℕ) → f.row ≡ number + i → Goes bytes p rows i
some_begins bytes p number [] f e list fresh i is = end_goes bytes p i number f.row list fresh (sym (end_row (is_open p.place || is_before_units p.place) _ f e)) is
some_begins bytes p number (r ∷ rows) f e list fresh i is =
    by_fault (faults bytes p number r rows f e) i is (λ q ok more k row. some_begins bytes (step_row p (Some q)) (number + 1) rows f more
    (list_stays p.hunks p.longs p.place p.list q.word q.value q.content q.offsets list q.what ok) (fresh_after p.hunks p.longs p.place p.list q (length (filter is_hunk_row rows)) ok) k row)
  where
    by_fault : Faults bytes p number r rows f → (i : ℕ) → f.row ≡ number + i →
        ((q : FilePart) → refuse_row p (Some q) ≡ None → rows_fault bytes (step_row p (Some q)) (number + 1) rows ≡ Some f → (k : ℕ) → f.row ≡ number + 1 + k → Goes bytes (step_row p (Some q)) rows k) → Goes bytes p (r ∷ rows) i
    by_fault (Here x refused row) i is again = let none : 0 ≡ i = omega (arith, row, is) in subst (Goes bytes p (r ∷ rows)) none (here bytes p (r ∷ rows) list fresh)
    by_fault (Later q seen_is ok more) zero is again = absurd (omega (arith, is, at_least bytes (step_row p (Some q)) (number + 1) rows f more))
    by_fault (Later q seen_is ok more) (suc k) is again = after_row bytes p r rows q k seen_is ok (again q ok more k (omega (arith, is)))
