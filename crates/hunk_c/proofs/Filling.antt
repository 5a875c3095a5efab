-- Rows that are written in turn.
use Rattle.std.proofs.Common.{◌≡◌, ℕ, ◌+◌, ◌<◌, ◌≤◌, List, [], ◌∷◌, ◌++◌, length, map, take, set, get_or, sym, ap, ◌∙◌, arith}
use Rattle.std.proofs.lemmas.List.{take_all, take_more, take_more_set, length-set, map-append}

module _ {Value Row : Type 0} (row_of : Value → Row) where
  -- The first rows are those of the values.
  pub record AreFilledTo (values : List Value) (written : List Row) (i : ℕ) : Type 0 where
    pub size : length written ≡ length values
    pub front : take i written ≡ map row_of (take i values)

  pub filled_more : (values : List Value) (written : List Row) (i : ℕ) (d : Value) (r : Row) → i < length values → r ≡ row_of (get_or values i d) →
      AreFilledTo values written i → AreFilledTo values (set written i r) (i + 1)
  filled_more values written i d r inside is f = record {
    size = length-set written i r ∙ f.size;
    front =
        take_more_set written i r (omega (arith, inside, f.size)) ∙ ap (λ (rows : List Row). rows ++ r ∷ []) f.front ∙ ap (λ (y : Row). map row_of (take i values) ++ y ∷ []) is
        ∙ sym (ap (λ (vs : List Value). map row_of vs) (take_more values i d inside) ∙ map-append row_of (take i values) (get_or values i d ∷ []));
  }

  pub filled_all : (values : List Value) (written : List Row) (i : ℕ) → length values ≤ i → AreFilledTo values written i → written ≡ map row_of values
  filled_all values written i all f =
      sym (take_all i written (omega (arith, all, f.size))) ∙ f.front ∙ ap (λ (u : List Value). map row_of u) (take_all i values all)
