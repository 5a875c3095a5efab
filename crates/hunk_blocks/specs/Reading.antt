-- What a reader of longwords has before it, and what was read of it.
use Rattle.std.specs.Prelude.{◌≡◌, ℕ, ◌+◌, ◌*◌, List, [], ◌∷◌, ◌++◌, length}
use Rattle.std.specs.List.{flat_map, AllByRecursion}
use Rattle.hunk_blocks.specs.Cuts.{Cut}
use Rattle.hunk_blocks.specs.Parts.{list_text}

-- the longwords still to come, and the number of bytes before them
pub record Unread : Type 0 where
  pub rest : List ℕ
  pub place : ℕ

-- These longwords were read.
pub record Reads (old new : Unread) (words : List ℕ) : Type 0 where
  pub front : old.rest ≡ words ++ new.rest
  pub further : new.place ≡ old.place + 4 * length words

-- This value was read, which the first longwords spell.
pub record ReadsValue {A : Type 0} (cut : List ℕ → Cut A) (old new : Unread) (value : A) : Type 0 where
  pub spelled : cut old.rest ≡ record { value = value; rest = new.rest }
  pub further : new.place + 4 * length new.rest ≡ old.place + 4 * length old.rest

-- The longwords begin with the text of some such value.
pub record BeginsWithSome {A : Type 0} (Is : A → Type 0) (text : A → List ℕ) (words : List ℕ) : Type 0 where
  pub value : A
  pub is : Is value
  pub more : List ℕ
  pub begins : words ≡ text value ++ more

-- They begin with a list of such values.
abbrev pub BeginsWithList : {A : Type 0} → (A → Type 0) → (A → List ℕ) → List ℕ → Type 0
BeginsWithList Is text words = BeginsWithSome (AllByRecursion Is) (list_text text) words

-- The text of some such value begins with these longwords.
pub record IsFrontOf {A : Type 0} (Is : A → Type 0) (text : A → List ℕ) (words : List ℕ) : Type 0 where
  pub value : A
  pub is : Is value
  pub more : List ℕ
  pub begins : text value ≡ words ++ more

-- Of texts that stand one after the other, one ends with longword number n, counted from 0.
pub record EndsItem {A : Type 0} (text : A → List ℕ) (items : List A) (n : ℕ) : Type 0 where
  pub before : List A
  pub item : A
  pub after : List A
  pub split : items ≡ before ++ item ∷ after
  pub last : n + 1 ≡ length (flat_map text (before ++ item ∷ []))
