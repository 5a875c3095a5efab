-- What the hunks of a load file in memory stand for.
use Rattle.std.proofs.Common.{rules, ◌≡◌, ℕ, zero, suc, ◌+◌, ◌<◌, List, [], ◌∷◌, ◌++◌, length, map, get_or, set, take, drop, refl, sym, ap, ap₂, subst, ◌∙◌, arith, Some, Option}
use Rattle.std.specs.{Prelude.slice_get, Option.option_map}
use Rattle.std.proofs.lemmas.{Option.{slice_get-map, slice_get_read}, List.{length-map, take_at}}
use Rattle.hunk_files.specs.{declared.load.hunk.LoadHunk.LoadHunk, LoadFile.{HunkValue, LoadFileValue}}
use Rattle.hunk_files.specs.{LoadText.table, Strip.{strip_hunk, strip_file}}
use Rattle.hunk_files.specs.Tables.{row_entry, hunk_of}

-- ---- one hunk

pub hunk_at : (hs : List LoadHunk) (v : LoadFileValue) (i : ℕ) (h : LoadHunk) → map hunk_of hs ≡ v → i < length v → h ≡ get_or hs i h → slice_get v i ≡ Some (hunk_of h)
hunk_at hs v i h view inside is =
    let count : i < length hs = omega (arith, inside, ap length view, length-map hs hunk_of) in
    ap (λ (w : LoadFileValue). slice_get w i) (sym view) ∙ slice_get-map hunk_of hs i ∙ ap (λ (o : Option LoadHunk). option_map hunk_of o) (slice_get_read hs (length hs) i h refl count is)

pub entry_at : (hs : List LoadHunk) (v : LoadFileValue) (i : ℕ) (h : LoadHunk) → map hunk_of hs ≡ v → i < length v → h ≡ get_or hs i h → slice_get (table v) i ≡ Some (row_entry h.row)
entry_at hs v i h view inside is = slice_get-map (λ (x : HunkValue). x.entry) v i ∙ ap (λ (o : Option HunkValue). option_map (λ x. x.entry) o) (hunk_at hs v i h view inside is)

pub blocks_at : (hs : List LoadHunk) (v : LoadFileValue) (i : ℕ) (h : LoadHunk) → map hunk_of hs ≡ v → i < length v → h ≡ get_or hs i h → slice_get (map (λ h. h.blocks) v) i ≡ Some h.blocks.items
blocks_at hs v i h view inside is = slice_get-map (λ (x : HunkValue). x.blocks) v i ∙ ap (λ (o : Option HunkValue). option_map (λ x. x.blocks) o) (hunk_at hs v i h view inside is)

-- ---- stripped one after the other

pub stripped_more : (hs : List LoadHunk) (vs : LoadFileValue) (i : ℕ) (h x : LoadHunk) → map hunk_of hs ≡ strip_file (take i vs) ++ drop i vs → i < length hs → h ≡ get_or hs i h → hunk_of x ≡ strip_hunk (hunk_of h) →
    map hunk_of (set hs i x) ≡ strip_file (take (i + 1) vs) ++ drop (i + 1) vs
stripped_more hs vs i h x e inside is one = go hs vs i e inside is
  where
    go : (hs : List LoadHunk) (vs : LoadFileValue) (i : ℕ) → map hunk_of hs ≡ strip_file (take i vs) ++ drop i vs → i < length hs → h ≡ get_or hs i h → map hunk_of (set hs i x) ≡ strip_file (take (i + 1) vs) ++ drop (i + 1) vs
    go [] vs i e l is = absurd (omega (arith, l))
    go (y ∷ hs) [] zero e l is = absurd cc
    go (y ∷ hs) [] (suc i) e l is = absurd cc
    go (y ∷ hs) (v ∷ vs) zero e l is = search rules
    go (y ∷ hs) (v ∷ vs) (suc i) e l is =
        let head : hunk_of y ≡ strip_hunk v = cc in
        let tail : map hunk_of hs ≡ strip_file (take i vs) ++ drop i vs = cc in
        let step : suc (i + 1) ≡ suc i + 1 = omega arith in
        subst (λ (n : ℕ). hunk_of y ∷ map hunk_of (set hs i x) ≡ strip_file (take n (v ∷ vs)) ++ drop n (v ∷ vs)) step
        (ap₂ (λ (a : HunkValue) (b : LoadFileValue). a ∷ b) head (go hs vs i tail (omega (arith, l)) is))

-- what a slice of the vector was changed to
pub whole_slice : (old new : List LoadHunk) (len : ℕ) → len ≡ length old → map hunk_of new ≡ strip_file (map hunk_of old) → map hunk_of (take len (new ++ drop (length new) old)) ≡ strip_file (map hunk_of old)
whole_slice old new len e strips =
    let same : length new ≡ len = omega (arith, e, ap length strips, length-map new hunk_of, length-map (map hunk_of old) strip_hunk, length-map old hunk_of) in
    ap (map hunk_of) (take_at new (drop (length new) old) len same) ∙ strips
