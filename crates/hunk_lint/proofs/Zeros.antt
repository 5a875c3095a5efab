-- Bytes with zero bytes after them.
use Rattle.std.proofs.Common.{◌≡◌, ℕ, ◌+◌, ◌-◌, ◌<◌, List, ◌++◌, length, get_or, take, drop, arith, refl, sym, ap, ◌∙◌, inl, inr}
use Rattle.std.specs.Prelude.{replicate}
use Rattle.std.proofs.Math.ListN.{get_or-append, get_or-eq_default}
use Rattle.std.proofs.lemmas.{Bool.cases_lt, List.{get_or-append_right, get_or-drop, get_or-replicate, get_or-take, length-replicate}}
use Rattle.hunk_files.specs.Image.{filled}

zeros : (n i : ℕ) → get_or {A = ℕ} (replicate n 0) i 0 ≡ 0
zeros n i = elim (cases_lt i n) [ inl less ↦ get_or-replicate {A = ℕ} n i 0 0 less | inr most ↦ get_or-eq_default (replicate n 0) 0 (omega (arith, length-replicate {A = ℕ} n 0)) ]

with_zeros : (bytes : List ℕ) (n i : ℕ) → get_or {A = ℕ} (bytes ++ replicate n 0) i 0 ≡ get_or bytes i 0
with_zeros bytes n i = elim (cases_lt i (length bytes)) [
  | inl less ↦ get_or-append bytes (replicate n 0) 0 i less
  | inr most ↦ get_or-append_right bytes (replicate n 0) (length bytes) i 0 refl most ∙ zeros n (i - length bytes) ∙ sym (get_or-eq_default bytes 0 most)
]

-- of those from an offset on, byte by byte
pub byte_from : (bytes : List ℕ) (size offset i at : ℕ) → i < 4 → at ≡ offset + i → get_or {A = ℕ} (take 4 (drop offset (filled size bytes))) i 0 ≡ get_or bytes at 0
byte_from bytes size offset i at less is =
    get_or-take 4 (drop offset (filled size bytes)) i 0 less ∙ get_or-drop offset (filled size bytes) i 0
    ∙ with_zeros bytes (size - length bytes) (offset + i) ∙ ap (λ (n : ℕ). get_or bytes n 0) (sym is)
