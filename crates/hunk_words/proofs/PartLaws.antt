-- The longwords of a part of a list of bytes are a part of its longwords.
use Rattle.std.proofs.Common.{◌≡◌, ℕ, zero, suc, ◌*◌, List, [], ◌∷◌, take, drop, refl, ap, ◌∙◌, arith}
use Rattle.std.specs.Int.{w32, from_be_bytes}
use Rattle.hunk_words.specs.Longs.{longs}

pub longs-take : (bytes : List ℕ) (n m : ℕ) → m ≡ 4 * n → longs (take m bytes) ≡ take n (longs bytes)
longs-take bytes zero m e = let k : m ≡ 0 = omega (arith, e) in ap (λ (i : ℕ). longs (take i bytes)) k
longs-take bytes (suc n) m e = let k : m ≡ suc (suc (suc (suc (4 * n)))) = omega (arith, e) in ap (λ (i : ℕ). longs (take i bytes)) k ∙ go (λ rest. longs-take rest n (4 * n) refl) bytes
  where
    go : ((rest : List ℕ) → longs (take (4 * n) rest) ≡ take n (longs rest)) → (bs : List ℕ) → longs (take (suc (suc (suc (suc (4 * n))))) bs) ≡ take (suc n) (longs bs)
    go again [] = refl
    go again (a ∷ []) = refl
    go again (a ∷ b ∷ []) = refl
    go again (a ∷ b ∷ c ∷ []) = refl
    go again (a ∷ b ∷ c ∷ d ∷ rest) = ap (λ (xs : List ℕ). from_be_bytes w32 (a ∷ b ∷ c ∷ d ∷ []) ∷ xs) (again rest)

pub longs-drop : (bytes : List ℕ) (n m : ℕ) → m ≡ 4 * n → longs (drop m bytes) ≡ drop n (longs bytes)
longs-drop bytes zero m e = let k : m ≡ 0 = omega (arith, e) in ap (λ (i : ℕ). longs (drop i bytes)) k
longs-drop bytes (suc n) m e = let k : m ≡ suc (suc (suc (suc (4 * n)))) = omega (arith, e) in ap (λ (i : ℕ). longs (drop i bytes)) k ∙ go (λ rest. longs-drop rest n (4 * n) refl) bytes
  where
    go : ((rest : List ℕ) → longs (drop (4 * n) rest) ≡ drop n (longs rest)) → (bs : List ℕ) → longs (drop (suc (suc (suc (suc (4 * n))))) bs) ≡ drop (suc n) (longs bs)
    go again [] = refl
    go again (a ∷ []) = refl
    go again (a ∷ b ∷ []) = refl
    go again (a ∷ b ∷ c ∷ []) = refl
    go again (a ∷ b ∷ c ∷ d ∷ rest) = again rest
