-- Rows that are listed one after the other.
use Rattle.std.specs.Prelude.{ℕ, ◌+◌, ◌*◌, List, [], ◌∷◌, ◌++◌, length}

-- those of items whose texts stand one after the other, from this byte on
abbrev pub in_turn : {A Row : Type 0} → (ℕ → A → List Row) → (A → List ℕ) → ℕ → List A → List Row
in_turn rows text place [] = []
in_turn rows text place (x ∷ rest) = rows place x ++ in_turn rows text (place + 4 * length (text x)) rest

-- where each item has one row
abbrev pub item_rows : {A Row : Type 0} → (ℕ → A → Row) → (A → List ℕ) → ℕ → List A → List Row
item_rows row = in_turn (λ place x. row place x ∷ [])
