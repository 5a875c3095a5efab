-- What a part is: one of six, or none of them, which is refused.
use Rattle.std.proofs.Common.{◌≡◌, ℕ, ◌<◌, zero, suc, Bool, true, false, cond, eqb, List, refl, arith, Option, Some, None}
use Rattle.std.proofs.lemmas.Bool.{ne_eqb}
use Rattle.std.specs.Prelude.{nat_lt}
use Rattle.hunk_words.specs.Bits.{kind}
use Rattle.hunk_words.specs.declared.block_word.Kind.{Kind}
use Rattle.hunk_words.specs.declared.block_word.Kind.TheVariants as kinds
use Rattle.hunk_grammar.specs.ObjectRoles.{after_block}
use Rattle.hunk_grammar.specs.Standings.{is_ending, standing_of_kind}
use Rattle.hunk_grammar.specs.declared.object_position.WordPlace.{WordPlace}
use Rattle.hunk_grammar.specs.declared.object_position.WordPlace.TheVariants.{BetweenHunks}
use Rattle.hunk_parts.specs.PartFaults.{PartPlace, items_of, list_after, place_after, refuse_far, refuse_part, refuse_row, size_of_part}
use Rattle.hunk_parts.specs.Parts.{part}
use Rattle.hunk_parts.proofs.spelled.BlocksInFront.{IsListAt}
use Rattle.hunk_parts.proofs.spelled.PartTests.{both_pass, in_its_place}
use Rattle.hunk_parts.proofs.spelled.Passing.{spot}

-- none of the six
pub record IsOther (what : ℕ) : Type 0 where
  pub no_hunk : eqb what 1 ≡ false
  pub no_unit : eqb what 2 ≡ false
  pub no_block : eqb what 3 ≡ false
  pub no_group : eqb what 4 ≡ false
  pub no_symbol : eqb what 5 ≡ false
  pub no_entry : eqb what 6 ≡ false

large : (n k : ℕ) → k < 7 → eqb (suc (suc (suc (suc (suc (suc (suc n))))))) k ≡ false
large n k small = ne_eqb (suc (suc (suc (suc (suc (suc (suc n))))))) k (λ e. omega (arith, e))

pub by_what : (P : ℕ → Type 0) → P 1 → P 2 → P 3 → P 4 → P 5 → P 6 → ((what : ℕ) → IsOther what → P what) → (what : ℕ) → P what
by_what P hunk unit block group symbol entry other zero = other 0 (record { no_hunk = refl; no_unit = refl; no_block = refl; no_group = refl; no_symbol = refl; no_entry = refl })
by_what P hunk unit block group symbol entry other (suc zero) = hunk
by_what P hunk unit block group symbol entry other (suc (suc zero)) = unit
by_what P hunk unit block group symbol entry other (suc (suc (suc zero))) = block
by_what P hunk unit block group symbol entry other (suc (suc (suc (suc zero)))) = group
by_what P hunk unit block group symbol entry other (suc (suc (suc (suc (suc zero))))) = symbol
by_what P hunk unit block group symbol entry other (suc (suc (suc (suc (suc (suc zero)))))) = entry
by_what P hunk unit block group symbol entry other (suc (suc (suc (suc (suc (suc (suc n))))))) =
    other (suc (suc (suc (suc (suc (suc (suc n))))))) (record {
      no_hunk = large n 1 (omega arith);
      no_unit = large n 2 (omega arith);
      no_block = large n 3 (omega arith);
      no_group = large n 4 (omega arith);
      no_symbol = large n 5 (omega arith);
      no_entry = large n 6 (omega arith);
    })

pub other_refused : (p : PartPlace) (what word value : ℕ) (content offsets : List ℕ) → IsOther what → refuse_row p (Some (part what word value content offsets)) ≡ None → ⊥
other_refused p what word value content offsets o e =
    let q = part what word value content offsets in
    let row = both_pass (refuse_part p (size_of_part q)) (refuse_far p q) e in
    let placed = in_its_place p (size_of_part q) (rw o.no_hunk at row.0) in
    let none = rw (o.no_unit, o.no_block, o.no_group, o.no_symbol, o.no_entry) at placed.1 in
    cc

-- ---- the open list

pub lists_go_on : (k : Kind) → nat_lt 0 (items_of k) ≡ true → is_ending (standing_of_kind k) ≡ false
lists_go_on kinds.End e = absurd cc
lists_go_on kinds.Unit e = refl
lists_go_on _ e = refl

opens_list : (place : WordPlace) (k : Kind) (b : Bool) → nat_lt 0 (items_of k) ≡ b →
    IsListAt (cond (is_ending (standing_of_kind k)) BetweenHunks (after_block place (standing_of_kind k))) (cond b (Some k) None)
opens_list place k true e = rw (lists_go_on k e) (refl, e)
opens_list place k false e = tt

-- It is of a hunk after each part that is not refused.
pub list_stays : (hunks longs : ℕ) (place : WordPlace) (list : Option Kind) (word value : ℕ) (content offsets : List ℕ) → IsListAt place list → (what : ℕ) →
    refuse_row (spot hunks longs place list) (Some (part what word value content offsets)) ≡ None →
    IsListAt (place_after place (size_of_part (part what word value content offsets))) (list_after list what word)
list_stays hunks longs place list word value content offsets h = by_what
    (λ (what : ℕ). refuse_row (spot hunks longs place list) (Some (part what word value content offsets)) ≡ None → IsListAt (place_after place (size_of_part (part what word value content offsets))) (list_after list what word))
    (λ e. tt) (λ e. tt) (λ e. opens_list place (kind word) (nat_lt 0 (items_of (kind word))) refl) (λ e. h) (λ e. h) (λ e. h)
    (λ what o e. absurd (other_refused (spot hunks longs place list) what word value content offsets o e))
