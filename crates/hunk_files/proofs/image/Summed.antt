-- Longs that lie apart: one addition after the other is one sum.
use Rattle.std.proofs.Common.{◌≡◌, ℕ, zero, suc, ◌+◌, ◌-◌, ◌*◌, ◌%◌, ◌^◌, ◌<◌, ◌≤◌, ◌==◌, cond, if◌then◌else◌, List, [], ◌∷◌, ◌++◌, length, get_or, take, drop, replicate, refl, sym, ap, subst, ◌∙◌, arith, ◌⊎◌, inl, inr}
use Rattle.std.proofs.lemmas.Grind.{common_steps}
use Rattle.std.proofs.{Math.Nat.mod-add-mod, lemmas.{List.Sums.sum_by-cons, Nat.be_bytes_4, Bool.Decides.nat_tests}}
use Rattle.std.specs.{List.{Contains, AllByRecursion, flat_map}, Int.{w32, to_be_bytes}}
use Rattle.std.proofs.lemmas.List.{length-append, length-replicate, get_or-replicate, get_or_past, get_or-take, get_or-drop, ext_get_or, length-take, length-drop}
use Rattle.std.proofs.lemmas.Bool.{cases_lt, cases_order}
use Rattle.hunk_words.specs.Longs.{bytes_of, IsBytes}
use Rattle.hunk_blocks.specs.Values.{RelocGroup, BlockBody, BlockValue, Code, Data, Reloc}
use Rattle.hunk_files.specs.LoadFile.{HunkValue, FitsGroup, FitsHunk, IsHunk, IsHunkBlock, IsInside, declared_longs}
use Rattle.hunk_files.specs.Image.{content, relocations, offsets, image, relocated, add_at, filled, block_content, block_relocations, group_relocations}
use Rattle.hunk_files.specs.{Overlap.AreApart, SumImage.{long_at, added, IsOutside, IsSum, IsSumImage}}
use Rattle.hunk_files.proofs.image.AddAt.{added_length, added_beside, added_bytes, added_here, added_away, bytes_of_word, bytes_in_long, long_at_fits}
use Rattle.hunk_files.proofs.walk.Accepted.{All-map, All-flat_map}

abbrev pub AreInside : ℕ → List (ℕ × ℕ) → Type 0
AreInside size pairs = AllByRecursion (λ pair. pair.0 + 4 ≤ size) pairs

-- the same offset, or one whose long lies apart
abbrev pub IsAway : ℕ → ℕ → Type 0
IsAway p o = (p ≡ o) ⊎ ((p + 4 ≤ o) ⊎ (o + 4 ≤ p))

inside_same : (a b : ℕ) (pairs : List (ℕ × ℕ)) → a ≡ b → AreInside a pairs → AreInside b pairs
inside_same a b pairs e h = let P : ℕ → Type 0 = λ n. AreInside n pairs in subst P e h

pub relocated_length : (bases s : List ℕ) (pairs : List (ℕ × ℕ)) → AreInside (length s) pairs → length (relocated bases s pairs) ≡ length s
relocated_length bases s [] h = refl
relocated_length bases s (x ∷ pairs) h =
    let e = added_length s x.0 (get_or bases x.1 0) h.0 in
    relocated_length bases (add_at s x.0 (get_or bases x.1 0)) pairs (inside_same _ _ pairs (sym e) h.1) ∙ e

relocated_bytes : (bases s : List ℕ) (pairs : List (ℕ × ℕ)) → AreInside (length s) pairs → IsBytes s → IsBytes (relocated bases s pairs)
relocated_bytes bases s [] h b = b
relocated_bytes bases s (x ∷ pairs) h b =
    let e = added_length s x.0 (get_or bases x.1 0) h.0 in
    relocated_bytes bases (add_at s x.0 (get_or bases x.1 0)) pairs (inside_same _ _ pairs (sym e) h.1) (added_bytes s x.0 (get_or bases x.1 0) h.0 b)

relocated_beside : (bases s : List ℕ) (pairs : List (ℕ × ℕ)) (i : ℕ) → AreInside (length s) pairs → AllByRecursion (λ pair. (i < pair.0) ⊎ (pair.0 + 4 ≤ i)) pairs →
    get_or (relocated bases s pairs) i 0 ≡ get_or s i 0
relocated_beside bases s [] i h out = refl
relocated_beside bases s (x ∷ pairs) i h out =
    let e = added_length s x.0 (get_or bases x.1 0) h.0 in
    relocated_beside bases (add_at s x.0 (get_or bases x.1 0)) pairs i (inside_same _ _ pairs (sym e) h.1) out.1 ∙ added_beside s x.0 (get_or bases x.1 0) h.0 i out.0

sum_once : (a b c m : ℕ) → ((a + b) % m + c) % m ≡ (a + (b + c)) % m
sum_once a b c m = mod-add-mod (a + b) m c ∙ ap (λ (x : ℕ). x % m) (omega arith)

counts : (o p n : ℕ) → o ≡ p → cond (o == p) n 0 ≡ n
counts o p n e = grind (arith, nat_tests)

counts_not : (o p n : ℕ) → (o ≡ p → ⊥) → cond (o == p) n 0 ≡ 0
counts_not o p n e = grind (arith, nat_tests)

relocated_long : (bases s : List ℕ) (pairs : List (ℕ × ℕ)) (p : ℕ) → AreInside (length s) pairs → AllByRecursion (λ pair. IsAway p pair.0) pairs → long_at s p < 2 ^ 32 →
    long_at (relocated bases s pairs) p ≡ (long_at s p + added bases pairs p) % 2 ^ 32
relocated_long bases s [] p h away fits = omega (arith, fits)
relocated_long bases s (x ∷ pairs) p h away fits =
    let n = get_or bases x.1 0 in
    let t = add_at s x.0 n in
    let inside = inside_same (length s) (length t) pairs (sym (added_length s x.0 n h.0)) h.1 in
    let more = sum_by-cons (λ (pair : ℕ × ℕ). if pair.0 == p then get_or bases pair.1 0 else 0) x pairs in
    elim away.0 [
      | inl same ↦
          let P : ℕ → Type 0 = λ q. long_at t q ≡ (long_at s q + n) % 2 ^ 32 in
          let here : long_at t p ≡ (long_at s p + n) % 2 ^ 32 = subst P (sym same) (added_here s x.0 n h.0) in
          relocated_long bases t pairs p inside away.1 (omega (arith, here))
          ∙ ap (λ (l : ℕ). (l + added bases pairs p) % 2 ^ 32) here
          ∙ sum_once (long_at s p) n (added bases pairs p) (2 ^ 32)
          ∙ ap (λ (k : ℕ). (long_at s p + k) % 2 ^ 32) (omega (arith, more, counts x.0 p n (sym same)))
      | inr apart ↦
          let there : long_at t p ≡ long_at s p = added_away s x.0 n h.0 p apart in
          let other : x.0 ≡ p → ⊥ = λ e. elim apart [ inl l ↦ omega arith | inr r ↦ omega arith ] in
          relocated_long bases t pairs p inside away.1 (omega (arith, there, fits))
          ∙ ap (λ (l : ℕ). (l + added bases pairs p) % 2 ^ 32) there
          ∙ ap (λ (k : ℕ). (long_at s p + k) % 2 ^ 32) (omega (arith, more, counts_not x.0 p n other))
    ]

-- ---- of each offset of the pairs

contains_more : (xs : List ℕ) (x y : ℕ) → Contains xs y → Contains (x ∷ xs) y
contains_more xs x y c = (suc c.0, omega (arith, c.1), c.2)

all_named : (P : ℕ → Type 0) (pairs : List (ℕ × ℕ)) → ((o : ℕ) → Contains (offsets pairs) o → P o) → AllByRecursion (λ pair. P pair.0) pairs
all_named P [] h = tt
all_named P (x ∷ pairs) h = (h x.0 (0, omega arith, refl), all_named P pairs (λ o c. h o (contains_more (offsets pairs) x.0 o c)))

away_by_order : (places : List ℕ) (p o : ℕ) → AreApart places → Contains places p → Contains places o → IsAway p o
away_by_order places p o apart hp ho =
    elim (cases_order p o) [
      | inl e ↦ inl e
      | inr (inl less) ↦ elim (cases_lt o (p + 4)) [ inl near ↦ absurd (apart p o hp ho (less, near)) | inr far ↦ inr (inl far) ]
      | inr (inr more) ↦ elim (cases_lt p (o + 4)) [ inl near ↦ absurd (apart o p ho hp (more, near)) | inr far ↦ inr (inr far) ]
    ]

pub relocated_sums : (bases s : List ℕ) (pairs : List (ℕ × ℕ)) → IsBytes s → AreInside (length s) pairs → AreApart (offsets pairs) → IsSum bases s pairs (relocated bases s pairs)
relocated_sums bases s pairs b h apart =
    record {
      bytes = relocated_bytes bases s pairs h b;
      size = relocated_length bases s pairs h;
      at_offsets = λ o c. relocated_long bases s pairs o h (all_named (IsAway o) pairs (λ q d. away_by_order (offsets pairs) o q apart c d)) (long_at_fits s o b);
      other = λ i out. relocated_beside bases s pairs i h (all_named (λ q. (i < q) ⊎ (q + 4 ≤ i)) pairs out);
    }

-- ---- there is one such memory

pub record IsWithin (places : List ℕ) (i : ℕ) : Type 0 where
  pub offset : ℕ
  pub is_place : Contains places offset
  pub low : offset ≤ i
  pub high : i < offset + 4

within_or_outside : (places : List ℕ) (i : ℕ) → IsWithin places i ⊎ IsOutside places i
within_or_outside [] i = inr (λ o c. absurd (omega (arith, c.1)))
within_or_outside (x ∷ places) i = by_place (within_or_outside places i) (cases_lt i x) (cases_lt i (x + 4))
  where
    outside : IsOutside places i → (i < x) ⊎ (x + 4 ≤ i) → IsOutside (x ∷ places) i
    outside out h o (zero, l, e) = let P : ℕ → Type 0 = λ y. (i < y) ⊎ (y + 4 ≤ i) in subst P e h
    outside out h o (suc k, l, e) = out o (k, omega (arith, l), e)

    by_place : IsWithin places i ⊎ IsOutside places i → (i < x) ⊎ (x ≤ i) → (i < x + 4) ⊎ (x + 4 ≤ i) → IsWithin (x ∷ places) i ⊎ IsOutside (x ∷ places) i
    by_place (inl w) g h = inl (record { offset = w.offset; is_place = contains_more places x w.offset w.is_place; low = w.low; high = w.high })
    by_place (inr out) (inl less) h = inr (outside out (inl less))
    by_place (inr out) (inr le) (inr more) = inr (outside out (inr more))
    by_place (inr out) (inr le) (inl less) = inl (record { offset = x; is_place = (0, omega arith, refl); low = le; high = less })

-- a byte of a long
byte_in : (s : List ℕ) (o i : ℕ) → o ≤ i → i < o + 4 → get_or (take 4 (drop o s)) (i - o) 0 ≡ get_or s i 0
byte_in s o i low high = get_or-take 4 (drop o s) (i - o) 0 (omega arith) ∙ get_or-drop o s (i - o) 0 ∙ ap (λ (k : ℕ). get_or s k 0) (omega arith)

same_bytes : (s t : List ℕ) (o : ℕ) → IsBytes s → IsBytes t → o + 4 ≤ length s → length s ≡ length t → long_at s o ≡ long_at t o → take 4 (drop o s) ≡ take 4 (drop o t)
same_bytes s t o bs bt inside e same =
    sym (be_bytes_4 (take 4 (drop o s)) (long_at s o) (omega (arith, length-take 4 (drop o s), length-drop o s)) (bytes_in_long s o bs) refl)
    ∙ be_bytes_4 (take 4 (drop o t)) (long_at s o) (omega (arith, length-take 4 (drop o t), length-drop o t)) (bytes_in_long t o bt) same

all_contained : (P : ℕ → Type 0) (pairs : List (ℕ × ℕ)) (o : ℕ) → AllByRecursion (λ pair. P pair.0) pairs → Contains (offsets pairs) o → P o
all_contained P [] o h (k, l, e) = absurd (omega (arith, l))
all_contained P (x ∷ pairs) o h (zero, l, e) = subst P e h.0
all_contained P (x ∷ pairs) o h (suc k, l, e) = all_contained P pairs o h.1 (k, omega (arith, l), e)

pub one_sum : (bases s : List ℕ) (pairs : List (ℕ × ℕ)) (a b : List ℕ) → AreInside (length s) pairs → IsSum bases s pairs a → IsSum bases s pairs b → a ≡ b
one_sum bases s pairs a b h x y =
    ext_get_or 0 a b (x.size ∙ sym y.size) (λ i l. by_place i (within_or_outside (offsets pairs) i))
  where
    by_place : (i : ℕ) → IsWithin (offsets pairs) i ⊎ IsOutside (offsets pairs) i → get_or a i 0 ≡ get_or b i 0
    by_place i (inr out) = x.other i out ∙ sym (y.other i out)
    by_place i (inl w) =
        let inside : w.offset + 4 ≤ length s = all_contained (λ o. o + 4 ≤ length s) pairs w.offset h w.is_place in
        sym (byte_in a w.offset i w.low w.high)
        ∙ ap (λ (l : List ℕ). get_or l (i - w.offset) 0) (same_bytes a b w.offset x.bytes y.bytes (omega (arith, x.size)) (x.size ∙ sym y.size) (x.at_offsets w.offset w.is_place ∙ sym (y.at_offsets w.offset w.is_place)))
        ∙ byte_in b w.offset i w.low w.high

-- ---- of a hunk

bytes_append : (s t : List ℕ) → IsBytes s → IsBytes t → IsBytes (s ++ t)
bytes_append s t a b i = grind (arith, common_steps)

no_bytes : IsBytes []
no_bytes i = omega arith

bytes_flat : {A : Type 0} (f : A → List ℕ) (xs : List A) → ((x : A) → IsBytes (f x)) → IsBytes (flat_map f xs)
bytes_flat f [] h = no_bytes
bytes_flat f (x ∷ xs) h = bytes_append (f x) (flat_map f xs) (h x) (bytes_flat f xs h)

zeros_are_bytes : (n : ℕ) → IsBytes (replicate n 0)
zeros_are_bytes n i = elim (cases_lt i n) [ inl less ↦ omega (arith, get_or-replicate {A = ℕ} n i 0 0 less) | inr more ↦ omega (arith, get_or_past {X = ℕ} (replicate n 0) i 0 (omega (arith, length-replicate {A = ℕ} n 0))) ]

words_bytes : (words : List ℕ) → IsBytes (bytes_of words)
unfolding bytes_of
words_bytes words = bytes_flat (to_be_bytes w32) words bytes_of_word

block_bytes : (b : BlockBody) → IsBytes (block_content b)
block_bytes (Code top words) = words_bytes words
block_bytes (Data top words) = words_bytes words
block_bytes _ = no_bytes

pub content_bytes : (h : HunkValue) → IsBytes (content h)
content_bytes h = bytes_append _ _ (bytes_flat (λ (b : BlockValue). block_content b.body) h.blocks (λ b. block_bytes b.body)) (zeros_are_bytes _)

filled_length : (size : ℕ) (bytes : List ℕ) → size ≤ length (filled size bytes)
filled_length size bytes = omega (arith, length-append bytes (replicate (size - length bytes) 0), length-replicate {A = ℕ} (size - length bytes) 0)

group_inside : (hunks longs size : ℕ) → 4 * longs ≤ size → (g : RelocGroup) → FitsGroup hunks longs g → AreInside size (group_relocations g)
group_inside hunks longs size le g h = All-map (IsInside longs) (λ (p : ℕ × ℕ). p.0 + 4 ≤ size) (λ (o : ℕ). (o, g.target)) (λ o l. omega (arith, l, le)) g.offsets h.1

block_inside : (hunks longs size : ℕ) → 4 * longs ≤ size → (b : BlockBody) → FitsHunk hunks longs b → AreInside size (block_relocations b)
block_inside hunks longs size le (Reloc groups) h = All-flat_map (FitsGroup hunks longs) (λ (p : ℕ × ℕ). p.0 + 4 ≤ size) group_relocations (group_inside hunks longs size le) groups h
block_inside hunks longs size le _ h = tt

pub relocations_inside : (hunks : ℕ) (h : HunkValue) → IsHunk hunks h → AreInside (length (content h)) (relocations h)
relocations_inside hunks h is =
    All-flat_map (IsHunkBlock hunks (declared_longs h)) (λ (p : ℕ × ℕ). p.0 + 4 ≤ length (content h)) (λ (b : BlockValue). block_relocations b.body)
    (λ b k. block_inside hunks (declared_longs h) (length (content h)) (filled_length (4 * declared_longs h) _) b.body k.fits) h.blocks is.blocks

pub image_sums : (hunks : ℕ) (h : HunkValue) (bases : List ℕ) → IsHunk hunks h → AreApart (offsets (relocations h)) → IsSumImage bases h (image bases h)
image_sums hunks h bases is apart = relocated_sums bases (content h) (relocations h) (content_bytes h) (relocations_inside hunks h is) apart

pub sums_image : (hunks : ℕ) (h : HunkValue) (bases memory : List ℕ) → IsHunk hunks h → AreApart (offsets (relocations h)) → IsSumImage bases h memory → memory ≡ image bases h
sums_image hunks h bases memory is apart sums = one_sum bases (content h) (relocations h) memory (image bases h) (relocations_inside hunks h is) sums (image_sums hunks h bases is apart)
