-- The bytes that close a file.
use Rattle.std.proofs.Common.{◌≡◌, ℕ, zero, suc, ◌+◌, ◌-◌, ◌*◌, ◌≤◌, Bool, true, false, List, [], ◌∷◌, ◌++◌, length, refl, sym, ap, ap₂, ◌∙◌, append_assoc, length-append, length-take-le, take_at, replicate, arith, take, Option, Some, None}
use Rattle.std.specs.List.{flat_map}
use Rattle.hunk_words.specs.{Longs.bytes_of}
use Rattle.hunk_words.proofs.LongLaws.{bytes_of-append, bytes_of-nil, length-bytes_of, length-longs}
use Rattle.hunk_files.specs.HunkFile.{file_bytes}
use Rattle.hunk_c.specs.Fronts.{empty_hunks, hunk_end}
use Rattle.hunk_c.specs.FrontPlaces.{IsFrontOf, closed_bytes, closing}
use Rattle.hunk_c.specs.Fronts.{EndsBetweenBlocks}
use Rattle.hunk_c.specs.declared.front.Front.{Front}

pub end_bytes : bytes_of (hunk_end (Some true)) ≡ 0 ∷ 0 ∷ 3 ∷ 0xF2 ∷ []
unfolding bytes_of
end_bytes = refl

abbrev pub empty_hunk : List ℕ
empty_hunk = 0 ∷ 0 ∷ 3 ∷ 0xEB ∷ 0 ∷ 0 ∷ 0 ∷ 0 ∷ 0 ∷ 0 ∷ 3 ∷ 0xF2 ∷ []

pub empty_bytes : bytes_of (hunk_end (Some false)) ≡ empty_hunk
unfolding bytes_of
empty_bytes = refl

pub none_bytes : bytes_of (hunk_end None) ≡ []
none_bytes = bytes_of-nil

-- empty hunks after others
hunks_after : (m n : ℕ) → empty_hunks (m + n) ≡ empty_hunks m ++ empty_hunks n
hunks_after zero n = ap empty_hunks (let e : 0 + n ≡ n = omega arith in e)
hunks_after (suc m) n =
    let on : suc m + n ≡ suc (m + n) = omega arith in
    ap empty_hunks on ∙ ap (λ (xs : List ℕ). hunk_end (Some false) ++ xs) (hunks_after m n)

pub more_hunks : (m n : ℕ) → bytes_of (empty_hunks (m + n)) ≡ bytes_of (empty_hunks m) ++ bytes_of (empty_hunks n)
more_hunks m n = ap bytes_of (hunks_after m n) ∙ bytes_of-append (empty_hunks m) (empty_hunks n)

pub empty_size : (n : ℕ) → length (empty_hunks n) ≡ 3 * n
empty_size zero = refl
empty_size (suc n) = omega (arith, empty_size n)

pub closing_bytes : (o : Option Bool) (left : ℕ) → length (bytes_of (hunk_end o ++ empty_hunks left)) ≡ 4 * length (hunk_end o) + 12 * left
closing_bytes o left = omega (arith, length-bytes_of (hunk_end o ++ empty_hunks left), length-append (hunk_end o) (empty_hunks left), empty_size left)

-- the bytes of so many of them, and of the first of these
pub hunks_bytes : (n : ℕ) → flat_map (λ xs. xs) (replicate n empty_hunk) ≡ bytes_of (empty_hunks n)
hunks_bytes zero = sym bytes_of-nil
hunks_bytes (suc n) = ap₂ (λ (xs ys : List ℕ). xs ++ ys) (sym empty_bytes) (hunks_bytes n) ∙ sym (bytes_of-append (hunk_end (Some false)) (empty_hunks n))

pub first_hunks : (all n : ℕ) → n ≤ all → take (12 * n) (bytes_of (empty_hunks all)) ≡ bytes_of (empty_hunks n)
first_hunks all n less =
    let sum : all ≡ n + (all - n) = omega (arith, less) in
    ap (λ (k : ℕ). take (12 * n) (bytes_of (empty_hunks k))) sum
    ∙ ap (take (12 * n)) (more_hunks n (all - n))
    ∙ take_at (bytes_of (empty_hunks n)) (bytes_of (empty_hunks (all - n))) (12 * n) (omega (arith, length-bytes_of (empty_hunks n), empty_size n))

-- ---- how long it is

pub front_size : (bytes : List ℕ) (front : Front) (f : IsFrontOf EndsBetweenBlocks bytes front) (size : ℕ) → size ≡ length (bytes_of (closing front)) → 4 * front.longs + size ≡ length (file_bytes f.file)
front_size bytes front f size e =
    omega (
      arith,
      e,
      ap (λ (xs : List ℕ). length xs) f.bytes_are,
      length-append (take (4 * front.longs) bytes) (bytes_of (closing front)),
      length-take-le (4 * front.longs) bytes (omega (arith, f.is_front.inside, length-longs bytes)),
    )

-- ---- how it begins

pub front_begins : (bytes : List ℕ) (front : Front) (f : IsFrontOf EndsBetweenBlocks bytes front) (rest : List ℕ) → take (4 * front.longs) (closed_bytes bytes front ++ rest) ≡ take (4 * front.longs) bytes
front_begins bytes front f rest =
    let n : ℕ = 4 * front.longs in
    ap (take n) (append_assoc (take n bytes) (bytes_of (closing front)) rest)
    ∙ take_at (take n bytes) (bytes_of (closing front) ++ rest) n (length-take-le n bytes (omega (arith, f.is_front.inside, length-longs bytes)))
