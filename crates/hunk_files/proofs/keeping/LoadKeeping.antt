-- The hunks of a load file, kept in a list one by one.
use Rattle.std.proofs.Common.{◌≡◌, ℕ, ◌+◌, ◌*◌, ◌≤◌, List, [], ◌∷◌, ◌++◌, length, drop, refl, sym, ap, subst, ◌∙◌, arith, inl, inr, Some, None}
use Rattle.hunk_blocks.specs.Placed.{Placed}
use Rattle.hunk_blocks.specs.Values.{BlockValue}
use Rattle.hunk_files.specs.LoadFile.{TableEntry, HunkValue, LoadFileValue}
use Rattle.hunk_files.specs.FileSteps.{hunk as hunk_with}
use Rattle.hunk_files.specs.Hunks.{HunkAt, block_texts}
use Rattle.hunk_files.specs.InPlace.{BeginsWithHunks, GivesPart, hunks_in}
use Rattle.hunk_files.specs.Lacks.{EndsAt, EndsHunkPart, EndsLoadPart, Within}
use Rattle.hunk_files.specs.Tables.{header_text}
use Rattle.hunk_files.proofs.views.HunkBlocks.{some_text}
use Rattle.hunk_files.proofs.views.HunksInPlace.{NextHunk, hunk_gives, hunk_text, hunks_in-nil, next_hunk_of, seen_hunks}
use Rattle.hunk_files.proofs.views.PlaceLaws.{ends_after, ends_map, last_at}
use Rattle.hunk_files.proofs.views.PartsInTurn.{Taken, all_taken, part_taken, part_within}

-- A part of a hunk ends here.
abbrev pub LacksHunkPart : Placed LoadFileValue → ℕ → Type 0
LacksHunkPart all place = EndsAt (Within hunk_text (λ h. EndsHunkPart h.blocks) all.value) all.place place

-- The blocks of the hunk that comes next.
module _ {all : Placed LoadFileValue} {entries : List TableEntry} {entry : TableEntry} {left : List TableEntry} {done : List HunkValue} (bytes : List ℕ) (at : ℕ) (begins : BeginsWithHunks entries (drop at bytes))
    (t : Taken hunk_text all (seen_hunks entries bytes at) done) (steps : entries ≡ entry ∷ left) (blocks : Placed (List BlockValue)) (here_are : (hunk : HunkAt bytes at) → blocks ≡ record { place = at; value = hunk.blocks }) where
  n : NextHunk entries entry left bytes at
  n = next_hunk_of entries entry left bytes at steps begins

  are : blocks ≡ record { place = at; value = n.here.blocks }
  are = here_are n.here

  abbrev hunk : Placed HunkValue
  hunk = record { place = blocks.place; value = hunk_with entry blocks.value }

  gives : (end : ℕ) → end ≡ blocks.place + 4 * length (block_texts blocks.value) → GivesPart hunk_text (seen_hunks entries bytes at) (Some hunk) (seen_hunks left bytes end)
  gives end e = hunk_gives entries entry left bytes at n blocks are end (e ∙ ap (λ (p : Placed (List BlockValue)). p.place + 4 * length (block_texts p.value)) are)

  pub part_lacks : (place : ℕ) → EndsAt (EndsHunkPart blocks.value) blocks.place place → LacksHunkPart all place
  part_lacks = part_within hunk_text all (seen_hunks entries bytes at) (seen_hunks left bytes _) done (Some hunk) hunk t refl (gives _ refl) (λ h. EndsHunkPart h.blocks)

  module _ (end : ℕ) (e : end ≡ blocks.place + 4 * length (block_texts blocks.value)) where
    pub hunks_after : BeginsWithHunks left (drop end bytes)
    hunks_after = n.left end (e ∙ ap (λ (p : Placed (List BlockValue)). p.place + 4 * length (block_texts p.value)) are)

    some_blocks : 1 ≤ length (block_texts blocks.value)
    some_blocks = subst (λ (p : Placed (List BlockValue)). 1 ≤ length (block_texts p.value)) (sym are) (some_text n.here.blocks n.here.is)

    pub some_after : 4 ≤ end
    some_after = omega (arith, e, some_blocks)

    pub hunk_kept : (h : HunkValue) → h ≡ hunk_with entry blocks.value → Taken hunk_text all (seen_hunks left bytes end) (done ++ h ∷ [])
    hunk_kept h same =
        subst (λ (x : HunkValue). Taken hunk_text all (seen_hunks left bytes end) (done ++ x ∷ [])) (sym same)
        (part_taken hunk_text all (seen_hunks entries bytes at) (seen_hunks left bytes end) done (Some hunk) hunk t refl (gives end e))

    pub hunk_lacks : (place : ℕ) → place + 4 ≡ end → LacksHunkPart all place
    hunk_lacks place p = part_lacks place (ends_map (λ n last. inl last) (last_at (block_texts blocks.value) blocks.place end place some_blocks e p))

-- Where no entry is left, all are kept.
pub all_kept : {all : Placed LoadFileValue} {entries : List TableEntry} {done : List HunkValue} (bytes : List ℕ) (at : ℕ) → Taken hunk_text all (seen_hunks entries bytes at) done → entries ≡ [] → done ≡ all.value
all_kept {all} {entries} {done} bytes at t none =
    (all_taken hunk_text all (seen_hunks entries bytes at) (seen_hunks entries bytes at) done None t refl (ap (λ (es : List TableEntry). hunks_in es (drop at bytes)) none ∙ hunks_in-nil (drop at bytes), refl)).0

-- A part of the file ends here.
pub load_lacks : (file : LoadFileValue) (all : Placed LoadFileValue) → all.value ≡ file → all.place ≡ 4 * length (header_text file) → (place : ℕ) → LacksHunkPart all place → EndsAt (EndsLoadPart file) 0 place
load_lacks file all value start place l =
    let whole : EndsAt (EndsLoadPart all.value) 0 place =
    ends_map (λ n part. inr part) (ends_after (length (header_text all.value)) (start ∙ ap (λ (v : LoadFileValue). 4 * length (header_text v)) (sym value) ∙ omega arith) l) in
    subst (λ (v : LoadFileValue). EndsAt (EndsLoadPart v) 0 place) value whole
