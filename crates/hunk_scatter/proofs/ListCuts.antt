-- One list cut in two ways.
use Rattle.std.proofs.Common.{◌≡◌, ℕ, List, [], ◌∷◌, ◌++◌, refl, sym, ap, ap₂, arith, ◌⊎◌, inl, inr}
use Rattle.std.proofs.lemmas.Grind.{common_steps}

-- Both cuts are at one place, or one is before the other.
pub data Cuts (xs : List ℕ) (x : ℕ) (ys : List ℕ) (y : ℕ) : Type 0 where
  Same : xs ≡ ys → x ≡ y → Cuts xs x ys y
  Before : (m : List ℕ) → ys ≡ xs ++ x ∷ m → Cuts xs x ys y
  After : (m : List ℕ) → xs ≡ ys ++ y ∷ m → Cuts xs x ys y

pub cuts : (xs : List ℕ) (x : ℕ) (cs ys : List ℕ) (y : ℕ) (bs : List ℕ) → xs ++ x ∷ cs ≡ ys ++ y ∷ bs → Cuts xs x ys y
cuts [] x cs [] y bs e = Same refl cc
cuts [] x cs (z ∷ ys) y bs e = let d : x ≡ z = cc in Before ys (ap (λ (k : ℕ). k ∷ ys) (sym d))
cuts (z ∷ xs) x cs [] y bs e = let d : z ≡ y = cc in After xs (ap (λ (k : ℕ). k ∷ xs) d)
cuts (z ∷ xs) x cs (v ∷ ys) y bs e =
    let head : z ≡ v = cc in
    let tail : xs ++ x ∷ cs ≡ ys ++ y ∷ bs = cc in
    go head (cuts xs x cs ys y bs tail)
  where
    go : z ≡ v → Cuts xs x ys y → Cuts (z ∷ xs) x (v ∷ ys) y
    go h (Same p q) = Same (ap₂ (λ (k : ℕ) (l : List ℕ). k ∷ l) h p) q
    go h (Before m p) = Before m (ap₂ (λ (k : ℕ) (l : List ℕ). k ∷ l) (sym h) p)
    go h (After m p) = After m (ap₂ (λ (k : ℕ) (l : List ℕ). k ∷ l) h p)

-- A front ends after an element, or before it.
pub fronts : (xs : List ℕ) (x : ℕ) (cs ys bs : List ℕ) → xs ++ x ∷ cs ≡ ys ++ bs → ((m : List ℕ) × (ys ≡ xs ++ x ∷ m)) ⊎ ((m : List ℕ) × (xs ≡ ys ++ m))
fronts xs x cs [] bs e = inr (xs, refl)
fronts [] x cs (y ∷ ys) bs e = let d : x ≡ y = cc in inl (ys, ap (λ (k : ℕ). k ∷ ys) (sym d))
fronts (z ∷ xs) x cs (y ∷ ys) bs e =
    let head : z ≡ y = cc in
    let tail : xs ++ x ∷ cs ≡ ys ++ bs = cc in
    go head (fronts xs x cs ys bs tail)
  where
    go : z ≡ y → ((m : List ℕ) × (ys ≡ xs ++ x ∷ m)) ⊎ ((m : List ℕ) × (xs ≡ ys ++ m)) → ((m : List ℕ) × (y ∷ ys ≡ (z ∷ xs) ++ x ∷ m)) ⊎ ((m : List ℕ) × (z ∷ xs ≡ (y ∷ ys) ++ m))
    go h (inl (m, p)) = inl (m, ap₂ (λ (k : ℕ) (l : List ℕ). k ∷ l) (sym h) p)
    go h (inr (m, p)) = inr (m, ap₂ (λ (k : ℕ) (l : List ℕ). k ∷ l) h p)

-- The last element is not before another.
pub not_before : (xs : List ℕ) (x : ℕ) (ys : List ℕ) (y : ℕ) (bs m : List ℕ) → xs ++ x ∷ [] ≡ ys ++ y ∷ bs → ys ≡ xs ++ x ∷ m → ⊥
not_before xs x ys y bs m e d = grind (arith, common_steps)
