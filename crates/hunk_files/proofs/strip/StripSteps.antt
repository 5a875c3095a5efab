-- Stripping hunks and units one by one.
use Rattle.std.proofs.Common.{◌≡◌, ℕ, zero, suc, ◌+◌, ◌<◌, ◌≤◌, Bool, true, false, cond, List, [], ◌∷◌, ◌++◌, length, map, take, drop, get_or, set, refl, sym, ap, ◌∙◌, length-append, arith, add-one}
use Rattle.std.specs.List.{flat_map}
use Rattle.hunk_words.specs.Longs.{bytes_of}
use Rattle.hunk_words.proofs.LongLaws.{length-bytes_of}
use Rattle.hunk_blocks.specs.Parts.{block_text}
use Rattle.hunk_files.specs.ObjectFile.{ObjectHunk, ObjectFileValue, unit_header, unit_text, object_text}
use Rattle.hunk_files.specs.Strip.{is_kept, strip_blocks, strip_unit, strip_object}

-- ---- a list of which the first elements are changed

abbrev pub turned : {A : Type 0} → (A → A) → ℕ → List A → List A
turned f i xs = map f (take i xs) ++ drop i xs

length-turned : {A : Type 0} (f : A → A) (i : ℕ) (xs : List A) → length (turned f i xs) ≡ length xs
length-turned f zero xs = refl
length-turned f (suc i) [] = refl
length-turned f (suc i) (x ∷ xs) = ap suc (length-turned f i xs)

get_or-turned : {A : Type 0} (f : A → A) (i : ℕ) (xs : List A) (d : A) → get_or (turned f i xs) i d ≡ get_or xs i d
get_or-turned f zero xs d = refl
get_or-turned f (suc i) [] d = refl
get_or-turned f (suc i) (x ∷ xs) d = get_or-turned f i xs d

set-turned : {A : Type 0} (f : A → A) (i : ℕ) (xs : List A) (d : A) → i < length xs → set (turned f i xs) i (f (get_or xs i d)) ≡ turned f (suc i) xs
set-turned f i [] d h = absurd (omega (arith, h))
set-turned f zero (x ∷ xs) d h = refl
set-turned f (suc i) (x ∷ xs) d h = ap (λ l. f x ∷ l) (set-turned f i xs d (omega (arith, h)))

-- one more element is changed
pub turn_more : {A : Type 0} (f : A → A) (now old : List A) (i : ℕ) (d y : A) → i < length now → now ≡ turned f i old → y ≡ f (get_or now i d) → set now i y ≡ turned f (i + 1) old
turn_more {A} f now old i d y l e t =
    let same : get_or now i d ≡ get_or old i d = ap (λ (xs : List A). get_or xs i d) e ∙ get_or-turned f i old d in
    let fits : i < length old = omega (arith, l, ap length e, length-turned f i old) in
    ap (λ (xs : List A). set xs i y) e ∙ ap (λ (z : A). set (turned f i old) i z) (t ∙ ap f same) ∙ set-turned f i old d fits ∙ ap (λ (n : ℕ). turned f n old) (sym (add-one i))

-- ---- the text gets no longer

pub shorter_blocks : (bs : ObjectHunk) → length (flat_map block_text (strip_blocks bs)) ≤ length (flat_map block_text bs)
shorter_blocks [] = omega arith
shorter_blocks (b ∷ bs) = by_test (shorter_blocks bs) (is_kept b.body)
  where
    by_test : length (flat_map block_text (strip_blocks bs)) ≤ length (flat_map block_text bs) → (k : Bool) → length (flat_map block_text (cond k (b ∷ strip_blocks bs) (strip_blocks bs))) ≤ length (block_text b ++ flat_map block_text bs)
    by_test rest true = omega (arith, rest, length-append (block_text b) (flat_map block_text (strip_blocks bs)), length-append (block_text b) (flat_map block_text bs))
    by_test rest false = omega (arith, rest, length-append (block_text b) (flat_map block_text bs))

shorter_hunks : (hs : List ObjectHunk) → length (flat_map (flat_map block_text) (map strip_blocks hs)) ≤ length (flat_map (flat_map block_text) hs)
shorter_hunks [] = omega arith
shorter_hunks (h ∷ hs) =
    omega (arith, shorter_blocks h, shorter_hunks hs, length-append (flat_map block_text (strip_blocks h)) (flat_map (flat_map block_text) (map strip_blocks hs)), length-append (flat_map block_text h) (flat_map (flat_map block_text) hs))

shorter_units : (us : ObjectFileValue) → length (object_text (strip_object us)) ≤ length (object_text us)
shorter_units [] = omega arith
shorter_units (u ∷ us) =
    omega (
      arith,
      shorter_hunks u.hunks,
      shorter_units us,
      length-append (unit_text (strip_unit u)) (object_text (strip_object us)),
      length-append (unit_text u) (object_text us),
      length-append (unit_header u.name) (flat_map (flat_map block_text) (map strip_blocks u.hunks)),
      length-append (unit_header u.name) (flat_map (flat_map block_text) u.hunks),
    )

pub shorter : (us : ObjectFileValue) → length (bytes_of (object_text (strip_object us))) ≤ length (bytes_of (object_text us))
shorter us = omega (arith, shorter_units us, length-bytes_of (object_text (strip_object us)), length-bytes_of (object_text us))
