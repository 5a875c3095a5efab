-- The offsets of relocations.
use Rattle.std.proofs.Common.{◌≡◌, ℕ, List, [], ◌∷◌, ◌++◌, length, map, refl, sym, ap, ◌∙◌, append_assoc, append-nil}
use Rattle.std.proofs.lemmas.{List.map-append, Option.slice_get-map}
use Rattle.std.specs.{Prelude.{slice_get, unwrap_or, Some, Option}, Option.option_map, List.flat_map}
use Rattle.hunk_blocks.specs.Values.{RelocGroup}
use Rattle.hunk_files.specs.{LoadFile.{HunkValue, LoadFileValue}, Image.{group_relocations, relocations, offsets}}
use Rattle.hunk_files.specs.Overlap.{hunk_offsets}

pub group_offsets : (g : RelocGroup) → offsets (group_relocations g) ≡ g.offsets
group_offsets g = go g.offsets
  where
    go : (os : List ℕ) → offsets (map (λ o. (o, g.target)) os) ≡ os
    go [] = refl
    go (o ∷ os) = ap (λ (xs : List ℕ). o ∷ xs) (go os)

-- those of the first element, and of the rest
pub offsets_first : {A : Type 0} (f : A → List (ℕ × ℕ)) (left rest : List A) (x : A) (held new : List ℕ) → left ≡ x ∷ rest → new ≡ held ++ offsets (f x) →
    new ++ offsets (flat_map f rest) ≡ held ++ offsets (flat_map f left)
offsets_first {A} f left rest x held new e n =
    ap (λ (l : List ℕ). l ++ offsets (flat_map f rest)) n ∙ append_assoc held (offsets (f x)) (offsets (flat_map f rest))
    ∙ ap (λ (l : List ℕ). held ++ l) (sym (map-append (λ (p : ℕ × ℕ). p.0) (f x) (flat_map f rest)))
    ∙ ap (λ (ys : List A). held ++ offsets (flat_map f ys)) (sym e)

-- no element is left
pub offsets_done : {A : Type 0} (f : A → List (ℕ × ℕ)) (left : List A) (held : List ℕ) → length left ≡ 0 → held ≡ held ++ offsets (flat_map f left)
offsets_done f [] held e = sym (append-nil held)
offsets_done f (x ∷ left) held e = absurd cc

pub offsets_at : (v : LoadFileValue) (i : ℕ) (h : HunkValue) → slice_get v i ≡ Some h → hunk_offsets v i ≡ offsets (relocations h)
offsets_at v i h e =
    ap (λ (o : Option (List ℕ)). unwrap_or o []) (slice_get-map (λ (x : HunkValue). offsets (relocations x)) v i ∙ ap (λ (o : Option HunkValue). option_map (λ x. offsets (relocations x)) o) e)
