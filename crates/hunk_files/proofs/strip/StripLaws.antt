-- What is left of a value by strip.
use Rattle.std.proofs.Common.{◌≡◌, ℕ, ◌+◌, ◌*◌, Bool, true, false, cond, List, [], ◌∷◌, ◌++◌, length, map, refl, sym, ap, ap₂, subst, ◌∙◌, arith}
use Rattle.std.proofs.lemmas.List.{length-map}
use Rattle.std.specs.List.{flat_map, fold, AllByRecursion}
use Rattle.hunk_blocks.specs.Values.{BlockBody, BlockValue, Code, Reloc, IsBlock}
use Rattle.hunk_files.specs.LoadFile.{HunkValue, LoadFileValue, standing, AreInOrder, IsHunkBlock, IsHunk, IsLoadFile, declared_longs}
use Rattle.hunk_files.specs.LoadText.{table}
use Rattle.hunk_files.specs.Image.{HasMemoryOf, block_content, block_relocations, content, relocations, filled, image, images, relocated}
use Rattle.hunk_files.specs.ObjectFile.{ObjectHunk, UnitValue, ObjectFileValue, IsObjectHunk, IsUnit, IsObjectFile}
use Rattle.hunk_files.specs.Findings.{FindingValue, HunkContext, content_size, hunk_bytes, body_findings, hunk_findings, hunks_findings, unit_findings, units_findings, findings}
use Rattle.hunk_files.specs.Strip.{is_kept, strip_blocks, strip_hunk, strip_file, strip_unit, strip_object}
use Rattle.hunk_files.proofs.{walk.Accepted.All-map, walk.FileText.{standings, no_more}, walk.HunkOrder.by_standing}
use Rattle.hunk_grammar.specs.Standings.{BlockStanding, Beside}

-- ---- what the dropped blocks do not have

-- What gives nothing where a block is dropped gives the same of what is kept.
kept_same : {A : Type 0} (f : BlockValue → List A) → ((b : BlockValue) → is_kept b.body ≡ false → f b ≡ []) → (bs : List BlockValue) → flat_map f (strip_blocks bs) ≡ flat_map f bs
kept_same {A} f none [] = refl
kept_same {A} f none (b ∷ bs) = by_test (kept_same f none bs) (is_kept b.body) refl
  where
    by_test : flat_map f (strip_blocks bs) ≡ flat_map f bs → (k : Bool) → is_kept b.body ≡ k → flat_map f (cond k (b ∷ strip_blocks bs) (strip_blocks bs)) ≡ f b ++ flat_map f bs
    by_test rest true e = ap (λ (l : List A). f b ++ l) rest
    by_test rest false e = rest ∙ ap (λ (l : List A). l ++ flat_map f bs) (sym (none b e))

-- the same of a sum, from any number on
sum_from : (f : BlockValue → ℕ) → ((b : BlockValue) → is_kept b.body ≡ false → f b ≡ 0) → (bs : List BlockValue) (n : ℕ) → fold (λ a x. a + f x) n (strip_blocks bs) ≡ fold (λ a x. a + f x) n bs
sum_from f none [] n = refl
sum_from f none (b ∷ bs) n = by_test (sum_from f none bs) (is_kept b.body) refl
  where
    by_test : ((m : ℕ) → fold (λ a x. a + f x) m (strip_blocks bs) ≡ fold (λ a x. a + f x) m bs) → (k : Bool) → is_kept b.body ≡ k →
        fold (λ a x. a + f x) n (cond k (b ∷ strip_blocks bs) (strip_blocks bs)) ≡ fold (λ a x. a + f x) (n + f b) bs
    by_test rest true e = rest (n + f b)
    by_test rest false e = let same : n ≡ n + f b = omega (arith, none b e) in rest n ∙ ap (λ (m : ℕ). fold (λ a x. a + f x) m bs) same

no_content : (b : BlockBody) → is_kept b ≡ false → block_content b ≡ []
no_content (Code top words) e = absurd cc
no_content _ e = cc

no_relocations : (b : BlockBody) → is_kept b ≡ false → block_relocations b ≡ []
no_relocations (Reloc groups) e = absurd cc
no_relocations _ e = cc

no_size : (b : BlockBody) → is_kept b ≡ false → content_size b ≡ 0
no_size (Code top words) e = absurd cc
no_size _ e = cc

no_findings : (s : HunkContext) (word : ℕ) (b : BlockBody) → is_kept b ≡ false → body_findings s word b ≡ []
no_findings s word (Reloc groups) e = absurd cc
no_findings s word _ e = cc

-- ---- a load file

content_kept : (h : HunkValue) → content (strip_hunk h) ≡ content h
content_kept h = ap (filled (4 * declared_longs h)) (kept_same (λ b. block_content b.body) (λ b e. no_content b.body e) h.blocks)

relocations_kept : (h : HunkValue) → relocations (strip_hunk h) ≡ relocations h
relocations_kept h = kept_same (λ b. block_relocations b.body) (λ b e. no_relocations b.body e) h.blocks

image_kept : (bases : List ℕ) (h : HunkValue) → image bases (strip_hunk h) ≡ image bases h
image_kept bases h = ap₂ (λ (bytes : List ℕ) (pairs : List (ℕ × ℕ)). relocated bases bytes pairs) (content_kept h) (relocations_kept h)

each_kept : {A : Type 0} (f : HunkValue → A) → ((h : HunkValue) → f (strip_hunk h) ≡ f h) → (v : LoadFileValue) → map f (strip_file v) ≡ map f v
each_kept f same [] = refl
each_kept {A} f same (h ∷ v) = ap₂ (λ (x : A) (xs : List A). x ∷ xs) (same h) (each_kept f same v)

pub table_kept : (v : LoadFileValue) → table (strip_file v) ≡ table v
table_kept v = each_kept (λ h. h.entry) (λ h. refl) v

pub contents_kept : (v : LoadFileValue) → map content (strip_file v) ≡ map content v
contents_kept v = each_kept content content_kept v

pub all_relocations_kept : (v : LoadFileValue) → map relocations (strip_file v) ≡ map relocations v
all_relocations_kept v = each_kept relocations relocations_kept v

pub memory_kept : (v w : LoadFileValue) → HasMemoryOf v w → HasMemoryOf (strip_file v) w
memory_kept v w h = record { table = table_kept v ∙ h.table; images = λ bases. same bases v ∙ h.images bases }
  where
    same : (bases : List ℕ) (v : LoadFileValue) → images bases (strip_file v) ≡ images bases v
    same bases [] = refl
    same bases (h ∷ v) = ap₂ (λ (xs ys : List ℕ). xs ++ ys) (image_kept bases h) (same bases v)

pub images_kept : (v : LoadFileValue) (bases : List ℕ) → map (image bases) (strip_file v) ≡ map (image bases) v
images_kept v bases = each_kept (image bases) (image_kept bases) v

-- ---- the findings of an object file

bytes_kept : (h : ObjectHunk) → hunk_bytes (strip_blocks h) ≡ hunk_bytes h
bytes_kept h = sum_from (λ b. content_size b.body) (λ b e. no_size b.body e) h 0

abbrev spot : ℕ → ℕ → ℕ → ℕ → HunkContext
spot unit hunk hunks bytes = record { unit = unit; hunk = hunk; hunks = hunks; bytes = bytes }

hunks_findings_kept : (unit hunks number : ℕ) (hs : List ObjectHunk) → hunks_findings unit hunks number (map strip_blocks hs) ≡ hunks_findings unit hunks number hs
hunks_findings_kept unit hunks number [] = refl
hunks_findings_kept unit hunks number (h ∷ hs) =
    let here = spot unit number hunks (hunk_bytes (strip_blocks h)) in
    ap₂ (λ (xs ys : List FindingValue). xs ++ ys)
    (kept_same (λ b. body_findings here b.word b.body) (λ b e. no_findings here b.word b.body e) h ∙ ap (λ (n : ℕ). hunk_findings (spot unit number hunks n) h) (bytes_kept h))
    (hunks_findings_kept unit hunks (number + 1) hs)

unit_findings_kept : (number : ℕ) (u : UnitValue) → unit_findings number (strip_unit u) ≡ unit_findings number u
unit_findings_kept number u =
    hunks_findings_kept number (length (map strip_blocks u.hunks)) 0 u.hunks ∙ ap (λ (n : ℕ). hunks_findings number n 0 u.hunks) (length-map u.hunks strip_blocks)

units_findings_kept : (number : ℕ) (us : ObjectFileValue) → units_findings number (strip_object us) ≡ units_findings number us
units_findings_kept number [] = refl
units_findings_kept number (u ∷ us) = ap₂ (λ (xs ys : List FindingValue). xs ++ ys) (unit_findings_kept number u) (units_findings_kept (number + 1) us)

pub findings_kept : (o : ObjectFileValue) → findings (strip_object o) ≡ findings o
findings_kept o = units_findings_kept 0 o

-- ---- what is left is a value

all_kept : (P : BlockValue → Type 0) (bs : List BlockValue) → AllByRecursion P bs → AllByRecursion P (strip_blocks bs)
all_kept P [] h = tt
all_kept P (b ∷ bs) h = by_test (all_kept P bs h.1) (is_kept b.body)
  where
    by_test : AllByRecursion P (strip_blocks bs) → (k : Bool) → AllByRecursion P (cond k (b ∷ strip_blocks bs) (strip_blocks bs))
    by_test rest true = (h.0, rest)
    by_test rest false = rest

dropped_beside : (b : BlockBody) → is_kept b ≡ false → standing b ≡ Beside
dropped_beside (Code top words) e = absurd cc
dropped_beside _ e = cc

order_kept : (has : Bool) (bs : List BlockValue) → AreInOrder has (standings bs) → AreInOrder has (standings (strip_blocks bs))
order_kept has [] h = h
order_kept has (b ∷ bs) h = by_test (λ k. order_kept k bs) (is_kept b.body) refl
  where
    by_test : ((k : Bool) → AreInOrder k (standings bs) → AreInOrder k (standings (strip_blocks bs))) → (k : Bool) → is_kept b.body ≡ k → AreInOrder has (standings (cond k (b ∷ strip_blocks bs) (strip_blocks bs)))
    by_test rest true e =
        by_standing (λ k s. AreInOrder k (s ∷ standings (strip_blocks bs))) (standings bs) rest (rest true) (rest true)
        (λ last. ap (λ (l : List BlockValue). standings (strip_blocks l)) (no_more bs last)) has (standing b.body) h
    by_test rest false e = rest has (subst (λ (s : BlockStanding). AreInOrder has (s ∷ standings bs)) (dropped_beside b.body e) h)

hunk_kept : (hunks : ℕ) (h : HunkValue) → IsHunk hunks h → IsHunk hunks (strip_hunk h)
hunk_kept hunks h is = record { entry = is.entry; blocks = all_kept (IsHunkBlock hunks (declared_longs h)) h.blocks is.blocks; order = order_kept false h.blocks is.order }

pub file_kept : (v : LoadFileValue) → IsLoadFile v → IsLoadFile (strip_file v)
file_kept v is =
    let n : length (strip_file v) ≡ length v = length-map v strip_hunk in
    record {
      some = omega (arith, n, is.some);
      most = omega (arith, n, is.most);
      each = subst (λ (k : ℕ). AllByRecursion (IsHunk k) (strip_file v)) (sym n) (All-map (IsHunk (length v)) (IsHunk (length v)) strip_hunk (hunk_kept (length v)) v is.each);
    }

pub object_hunk_kept : (h : ObjectHunk) → IsObjectHunk h → IsObjectHunk (strip_blocks h)
object_hunk_kept h is = record { blocks = all_kept IsBlock h is.blocks; order = order_kept false h is.order }

pub unit_kept : (u : UnitValue) → IsUnit u → IsUnit (strip_unit u)
unit_kept u is = record { name = is.name; hunks = All-map IsObjectHunk IsObjectHunk strip_blocks object_hunk_kept u.hunks is.hunks }

pub object_kept : (o : ObjectFileValue) → IsObjectFile o → IsObjectFile (strip_object o)
object_kept o is = record { some = omega (arith, length-map o strip_unit, is.some); units = All-map IsUnit IsUnit strip_unit unit_kept o is.units }
