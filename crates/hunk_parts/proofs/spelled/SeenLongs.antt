-- The parts that rows are.
use Rattle.std.proofs.Common.{◌≡◌, ℕ, zero, suc, ◌+◌, ◌*◌, Bool, true, false, cond, List, [], ◌∷◌, ◌++◌, length, map, take, drop, refl, ap, sym, ap₂, subst, ◌∙◌, arith, Some}
use Rattle.std.specs.List.{AllByRecursion, filter}
use Rattle.std.proofs.lemmas.List.{get_or-drop}
use Rattle.hunk_words.specs.Longs.{IsBytes}
use Rattle.hunk_words.proofs.LongLaws.{longs_fit}
use Rattle.hunk_parts.specs.PartFaults.{is_hunk_row}
use Rattle.hunk_parts.specs.Parts.{FilePart, seen}
use Rattle.hunk_parts.specs.RowsText.{is_hunk, row_part}
use Rattle.hunk_parts.specs.RowFields.{AreRows}
use Rattle.hunk_parts.specs.declared.part_row.PartRow.{PartRow}
use Rattle.hunk_parts.proofs.RowSizes.{seen_part}
use Rattle.hunk_parts.proofs.spelled.Passing.{heads}
use Rattle.hunk_parts.proofs.spelled.Tails.{HasLongs}

pub parts_seen : (bytes : List ℕ) (rows : List PartRow) (qs : List FilePart) → map (seen bytes) rows ≡ map Some qs → map (row_part bytes) rows ≡ qs
parts_seen bytes [] [] e = refl
parts_seen bytes [] (q ∷ qs) e = absurd cc
parts_seen bytes (r ∷ rows) [] e = absurd cc
parts_seen bytes (r ∷ rows) (q ∷ qs) e =
    let both = heads (seen bytes r) (map (seen bytes) rows) q qs e in
    ap₂ (λ (x : FilePart) (xs : List FilePart). x ∷ xs) (seen_part bytes r q both.0) (parts_seen bytes rows qs both.1)

-- ---- how many hunks

pub kept : {A B : Type 0} (b : Bool) (x : A) (xs : List A) (y : B) (ys : List B) → length xs ≡ length ys → length (cond b (x ∷ xs) xs) ≡ length (cond b (y ∷ ys) ys)
kept true x xs y ys e = ap suc e
kept false x xs y ys e = e

hunks_of : (bytes : List ℕ) (rows : List PartRow) → length (filter is_hunk (map (row_part bytes) rows)) ≡ length (filter is_hunk_row rows)
hunks_of bytes [] = refl
hunks_of bytes (r ∷ rows) = kept (is_hunk_row r) (row_part bytes r) (filter is_hunk (map (row_part bytes) rows)) r (filter is_hunk_row rows) (hunks_of bytes rows)

pub hunks_seen : (bytes : List ℕ) (rows : List PartRow) (qs : List FilePart) → map (seen bytes) rows ≡ map Some qs → length (filter is_hunk qs) ≡ length (filter is_hunk_row rows)
hunks_seen bytes rows qs e = ap (λ (xs : List FilePart). length (filter is_hunk xs)) (sym (parts_seen bytes rows qs e)) ∙ hunks_of bytes rows

-- ---- their longwords have 32 bits

taken : (bytes : List ℕ) (n : ℕ) → IsBytes bytes → IsBytes (take n bytes)
taken bytes zero fit i = omega arith
taken [] (suc n) fit i = omega arith
taken (b ∷ bytes) (suc n) fit zero = fit 0
taken (b ∷ bytes) (suc n) fit (suc i) = taken bytes n (λ k. fit (suc k)) i

dropped : (bytes : List ℕ) (n : ℕ) → IsBytes bytes → IsBytes (drop n bytes)
dropped bytes n fit i = omega (arith, get_or-drop n bytes i 0, fit (n + i))

padded : (bytes : List ℕ) → IsBytes bytes → IsBytes (bytes ++ 0 ∷ 0 ∷ 0 ∷ [])
padded [] fit zero = omega arith
padded [] fit (suc zero) = omega arith
padded [] fit (suc (suc zero)) = omega arith
padded [] fit (suc (suc (suc i))) = omega arith
padded (b ∷ bytes) fit zero = fit 0
padded (b ∷ bytes) fit (suc i) = padded bytes (λ k. fit (suc k)) i

all_longs : (bytes : List ℕ) (rows : List PartRow) → IsBytes bytes → AreRows rows → AllByRecursion HasLongs (map (row_part bytes) rows)
all_longs bytes [] fit are = tt
all_longs bytes (r ∷ rows) fit are =
    let run : (place count : ℕ) → IsBytes (take count (drop place bytes)) = λ place count. taken (drop place bytes) count (dropped bytes place fit) in (
      record {
        word = are.0.word;
        value = are.0.value;
        content = longs_fit (take r.content_bytes (drop r.content bytes) ++ 0 ∷ 0 ∷ 0 ∷ []) (padded (take r.content_bytes (drop r.content bytes)) (run r.content r.content_bytes));
        offsets = longs_fit (take (4 * r.offset_count) (drop r.offsets bytes)) (run r.offsets (4 * r.offset_count));
      },
      all_longs bytes rows fit are.1,
    )

pub longs_seen : (bytes : List ℕ) (rows : List PartRow) (qs : List FilePart) → IsBytes bytes → AreRows rows → map (seen bytes) rows ≡ map Some qs → AllByRecursion HasLongs qs
longs_seen bytes rows qs fit are e = subst (AllByRecursion HasLongs) (parts_seen bytes rows qs e) (all_longs bytes rows fit are)
