-- The rows of some bytes.
use Rattle.std.proofs.Common.{◌≡◌, ℕ, suc, ◌+◌, ◌/◌, ◌<◌, List, [], ◌∷◌, ◌++◌, length, take, drop, min, refl, ap, ap₂, ◌∙◌, arith, length-append, append-nil}
use Rattle.std.proofs.lemmas.List.{take_all, length-drop}
use Rattle.std.proofs.Math.Seq.{take-append_seam, drop-append_seam}
use Rattle.hunk_listing.specs.SegmentLines.{dump, dump_row, dump_rows}

dump_rows-zero : (count : ℕ) (bytes : List ℕ) → count ≡ 0 → dump_rows count bytes ≡ []
unfolding dump_rows
dump_rows-zero count bytes e = ap (λ (n : ℕ). dump_rows n bytes) e

dump_rows-suc : (count more : ℕ) (bytes : List ℕ) → count ≡ suc more → dump_rows count bytes ≡ dump_row (take 16 bytes) ++ dump_rows more (drop 16 bytes)
unfolding dump_rows
dump_rows-suc count more bytes e = ap (λ (n : ℕ). dump_rows n bytes) e

pub dump-nil : (bytes : List ℕ) → length bytes ≡ 0 → dump bytes ≡ []
dump-nil bytes e = dump_rows-zero ((length bytes + 15) / 16) bytes (omega (arith, e))

take_front : (n : ℕ) (front back : List ℕ) → length front ≡ min n (length front + length back) → take n (front ++ back) ≡ front
take_front n front [] full = ap (take n) (append-nil front) ∙ take_all n front (omega (arith, full))
take_front n front (b ∷ back) full =
    let e : n ≡ length front = omega (arith, full) in
    ap (λ (k : ℕ). take k (front ++ b ∷ back)) e ∙ take-append_seam front (b ∷ back)

drop_front : (n : ℕ) (front back : List ℕ) → length front ≡ min n (length front + length back) → drop n (front ++ back) ≡ back
drop_front n front [] full = ap (drop n) (append-nil front) ∙ nothing (drop n front) (omega (arith, length-drop n front, full))
  where
    nothing : (xs : List ℕ) → length xs ≡ 0 → xs ≡ []
    nothing [] e = refl
    nothing (x ∷ xs) e = absurd (omega (arith, e))
drop_front n front (b ∷ back) full =
    let e : n ≡ length front = omega (arith, full) in
    ap (λ (k : ℕ). drop k (front ++ b ∷ back)) e ∙ drop-append_seam front (b ∷ back)

-- the first row, and those of the rest
pub dump-append : (bytes front back : List ℕ) → bytes ≡ front ++ back → length front ≡ min 16 (length bytes) → 0 < length bytes → dump bytes ≡ dump_row front ++ dump back
dump-append bytes front back split full some =
    let sum : length bytes ≡ length front + length back = ap (λ (xs : List ℕ). length xs) split ∙ length-append front back in
    let full' : length front ≡ min 16 (length front + length back) = omega (arith, full, sum) in
    let more : (length bytes + 15) / 16 ≡ suc ((length back + 15) / 16) = omega (arith, full, sum, some) in
    dump_rows-suc ((length bytes + 15) / 16) ((length back + 15) / 16) bytes more
    ∙ ap₂ (λ (xs ys : List ℕ). dump_row xs ++ dump_rows ((length back + 15) / 16) ys) (ap (take 16) split ∙ take_front 16 front back full') (ap (drop 16) split ∙ drop_front 16 front back full')
