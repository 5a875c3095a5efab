-- Rows without a fault are parts, none of which is refused.
use Rattle.std.proofs.Common.{◌≡◌, ℕ, ◌+◌, Bool, true, false, cond, ◌||◌, eqb, List, [], ◌∷◌, map, refl, ap, ap₂, ◌∙◌, Option, Some, None}
use Rattle.hunk_words.specs.Bits.{size_longs}
use Rattle.hunk_words.specs.declared.block_word.Kind.{Kind}
use Rattle.hunk_grammar.specs.declared.object_position.WordPlace.{WordPlace}
use Rattle.hunk_parts.specs.PartFaults.{PartPlace, Refusal, end_fault, is_before_units, is_open, list_after, next_fault, place_after, refuse_row, rows_fault, size_of_part, step_row}
use Rattle.hunk_parts.specs.Parts.{FilePart, hunk_part, seen}
use Rattle.hunk_parts.specs.declared.part_row.PartRow.{PartRow}
use Rattle.hunk_parts.specs.declared.row_fault.RowFault.{RowFault}

-- what a test of a part looks at
abbrev pub spot : ℕ → ℕ → WordPlace → Option Kind → PartPlace
spot hunks longs place list = record { hunks = hunks; longs = longs; place = place; list = list; entry = 0; at = 0 }

abbrev pub longs_after : ℕ → FilePart → ℕ
longs_after longs q = cond (eqb q.what hunk_part) (size_longs q.word) longs

-- None of the parts is refused from here on, and the file may end after them.
abbrev pub Pass : ℕ → ℕ → WordPlace → Option Kind → List FilePart → Type 0
Pass hunks longs place list [] = (is_open place ≡ false) × (is_before_units place ≡ false)
Pass hunks longs place list (q ∷ qs) =
    (refuse_row (spot hunks longs place list) (Some q) ≡ None) × Pass hunks (longs_after longs q) (place_after place (size_of_part q)) (list_after list q.what q.word) qs

abbrev pub PassFrom : PartPlace → List FilePart → Type 0
PassFrom p qs = Pass p.hunks p.longs p.place p.list qs

-- The rows are these parts, and none is refused.
pub record Passing (bytes : List ℕ) (rows : List PartRow) (p : PartPlace) : Type 0 where
  pub parts : List FilePart
  pub seen_are : map (seen bytes) rows ≡ map Some parts
  pub pass : PassFrom p parts

-- ---- the end

end_tests : (a b : Bool) (f : RowFault) → ◌≡◌ {A = Option RowFault} (cond (a || b) (Some f) None) None → (a ≡ false) × (b ≡ false)
end_tests false false f e = (refl, refl)
end_tests true b f e = absurd cc
end_tests false true f e = absurd cc

may_end : (p : PartPlace) (number : ℕ) → end_fault p number ≡ None → PassFrom p []
may_end p number e = end_tests (is_open p.place) (is_before_units p.place) _ e

none_open : (p : PartPlace) (number : ℕ) → PassFrom p [] → end_fault p number ≡ None
none_open p number h = rw (h.0, h.1) refl

-- ---- rows

no_fault : (rest : Option RowFault) (f : Option Refusal) (p : PartPlace) (r : PartRow) (number : ℕ) → next_fault rest f p r number ≡ None → (f ≡ None) × (rest ≡ None)
no_fault rest None p r number e = (refl, e)
no_fault rest (Some f) p r number e = absurd cc

-- A row that is not refused is a part.
passing_row : (bytes : List ℕ) (r : PartRow) (rows : List PartRow) (p : PartPlace) (o : Option FilePart) → seen bytes r ≡ o → refuse_row p o ≡ None → Passing bytes rows (step_row p o) → Passing bytes (r ∷ rows) p
passing_row bytes r rows p None is ok more = absurd cc
passing_row bytes r rows p (Some q) is ok more = record {
  parts = q ∷ more.parts;
  seen_are = ap₂ (λ (x : Option FilePart) (xs : List (Option FilePart)). x ∷ xs) is more.seen_are;
  pass = (ok, more.pass);
}

pub passing : (bytes : List ℕ) (p : PartPlace) (number : ℕ) (rows : List PartRow) → rows_fault bytes p number rows ≡ None → Passing bytes rows p
passing bytes p number [] e = record { parts = []; seen_are = refl; pass = may_end p number e }
passing bytes p number (r ∷ rows) e =
    let f = no_fault _ (refuse_row p (seen bytes r)) p r number e in
    passing_row bytes r rows p (seen bytes r) refl f.0 (passing bytes (step_row p (seen bytes r)) (number + 1) rows f.1)

-- and the other way round
next_none : (rest : Option RowFault) (o : Option FilePart) (q : FilePart) (p : PartPlace) (r : PartRow) (number : ℕ) → o ≡ Some q → refuse_row p (Some q) ≡ None → rest ≡ None → next_fault rest (refuse_row p o) p r number ≡ None
next_none rest o q p r number is ok more = rw (is, ok) more

pub heads : (o : Option FilePart) (os : List (Option FilePart)) (q : FilePart) (qs : List FilePart) → o ∷ os ≡ Some q ∷ map Some qs → (o ≡ Some q) × (os ≡ map Some qs)
heads o os q qs e = (cc, cc)

pub no_fault_found : (bytes : List ℕ) (p : PartPlace) (number : ℕ) (rows : List PartRow) (parts : List FilePart) → map (seen bytes) rows ≡ map Some parts → PassFrom p parts → rows_fault bytes p number rows ≡ None
no_fault_found bytes p number [] [] e h = none_open p number h
no_fault_found bytes p number [] (q ∷ parts) e h = absurd cc
no_fault_found bytes p number (r ∷ rows) [] e h = absurd cc
no_fault_found bytes p number (r ∷ rows) (q ∷ parts) e h =
    let both = heads (seen bytes r) (map (seen bytes) rows) q parts e in
    let more = no_fault_found bytes (step_row p (Some q)) (number + 1) rows parts both.1 h.1 in
    next_none _ (seen bytes r) q p r number both.0 h.0 (ap (λ (o : Option FilePart). rows_fault bytes (step_row p o) (number + 1) rows) both.0 ∙ more)
