-- A part that is of none of these kinds has no text in the body.
use Rattle.std.proofs.Common.{◌≡◌, ◌≢◌, ◌==◌, ℕ, Bool, true, false, List, [], refl, sym, if◌then◌else◌}
use Rattle.std.proofs.lemmas.Bool.{eqb-true, false_from_ne_true, false≢true}
use Rattle.hunk_parts.specs.Parts.{FilePart, block_part, entry_part, group_part, symbol_part, unit_part}
use Rattle.hunk_parts.specs.RowsText.{part_text}

skip : (b : Bool) (x y z : List ℕ) → b ≡ false → y ≡ z → (if b then x else y) ≡ z
skip true x y z is e = absurd (false≢true (sym is))
skip false x y z is e = e

other : (n m : ℕ) → n ≢ m → (n == m) ≡ false
other n m apart = false_from_ne_true (n == m) (λ e. apart (eqb-true n m e))

pub other_text : (q : FilePart) → q.what ≢ unit_part → q.what ≢ block_part → q.what ≢ group_part → q.what ≢ symbol_part → q.what ≢ entry_part → part_text q ≡ []
other_text q unit block group symbol entry =
    skip _ _ _ _ (other _ _ unit) (skip _ _ _ _ (other _ _ block) (skip _ _ _ _ (other _ _ group) (skip _ _ _ _ (other _ _ symbol) (skip _ _ _ _ (other _ _ entry) refl))))

-- nothing, where the one number is not the other
pub no_part : (n m : ℕ) (xs : List ℕ) → n ≢ m → (if n == m then xs else []) ≡ []
no_part n m xs apart = skip _ _ _ _ (other n m apart) refl
