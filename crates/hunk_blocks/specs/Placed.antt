-- Values with the byte of the input at which their text begins.
use Rattle.std.specs.Prelude.{◌≡◌, ℕ, ◌+◌, ◌*◌, List, [], ◌∷◌, length, Option, Some, None}
use Rattle.hunk_blocks.specs.Reading.{EndsItem}

pub record Placed (A : Type 0) : Type 0 where
  pub place : ℕ
  pub value : A

-- Of a list that is read item by item, the first was given, where one was left, and after its text the next begins.
abbrev pub GivesFirst : {T A : Type 0} → (T → A) → (A → List ℕ) → Placed (List A) → Option T → Placed (List A) → Type 0
GivesFirst view text old None new = (old.value ≡ []) × (new ≡ old)
GivesFirst view text old (Some item) new = (old.value ≡ view item ∷ new.value) × (new.place ≡ old.place + 4 * length (text (view item)))

-- One of the items ends with the longword at this byte.
pub record EndsItemAt {A : Type 0} (text : A → List ℕ) (items : Placed (List A)) (at : ℕ) : Type 0 where
  pub number : ℕ
  pub ends : EndsItem text items.value number
  pub place : at ≡ items.place + 4 * number
