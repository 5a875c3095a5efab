-- A source that shows all that it has left: it goes on so, and nothing is pulled from it.
use Rattle.std.proofs.Common.{◌≡◌, ℕ, ◌+◌, ◌<◌, ◌≤◌, List, [], ◌∷◌, ◌++◌, length, take, drop, Some, sym, ap, ◌∙◌, length-append, take-append-drop, arith, ◌⊎◌, inl, inr}
use Rattle.std.specs.Io.KnownBytes.{Consumes}
use Rattle.hunk_words.specs.{Carriers.Supply, declared.fault.Fault.Fault}
use Rattle.hunk_scatter.specs.LoadOutcomes.{IsAllShown, IsReadFault}
use Rattle.hunk_scatter.proofs.LoadLaws.{split_of}

rest_is : (xs ys zs : List ℕ) → xs ++ ys ≡ xs ++ zs → ys ≡ zs
rest_is [] ys zs e = e
rest_is (x ∷ xs) ys zs e = let tail : xs ++ ys ≡ xs ++ zs = cc in rest_is xs ys zs tail

-- It shows the rest, where a front was taken.
pub shows_rest : (old new : Supply) (shown : List ℕ) (n : ℕ) → Consumes old.left new.left (take n shown) → IsAllShown old shown → IsAllShown new (drop n shown)
shows_rest old new shown n c is =
    let s = split_of old new shown (take n shown) is c in
    s.left_is ∙ ap (λ (xs : List ℕ). Some xs) (rest_is (take n shown) s.rest (drop n shown) (sym s.split ∙ sym (take-append-drop n shown)))

-- Where it shows nothing, or the limit is reached, no piece is pulled.
pub pulls_none : (old new : Supply) (shown piece : List ℕ) (limit count : ℕ) → (shown ≡ []) ⊎ (limit ≤ count) → Consumes old.left new.left piece → 0 < length piece → count + length piece ≤ limit → IsAllShown old shown → ⊥
pulls_none old new shown piece limit count (inl e) c some within is =
    let s = split_of old new shown piece is c in
    omega (arith, some, ap length (sym e ∙ s.split), length-append piece s.rest)
pulls_none old new shown piece limit count (inr le) c some within is = omega (arith, le, some, within)

-- A fault of reading is at the end of what was read.
pub read_fault_ends : (limit : ℕ) (now : Supply) (count : ℕ) (f : Fault) → IsReadFault limit now count f → count ≤ f.place + 4
read_fault_ends limit now count f (inl (r, e, c)) = omega (arith, e, c)
read_fault_ends limit now count f (inr (inl (r, e, c))) = omega (arith, e)
read_fault_ends limit now count f (inr (inr (r, e, c))) = omega (arith, e)
