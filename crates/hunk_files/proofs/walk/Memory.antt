-- Of the open hunk: the content that has come, the relocations, and its memory so far.
use Rattle.std.proofs.Common.{◌≡◌, ℕ, zero, suc, ◌*◌, ◌/◌, ◌%◌, ◌^◌, List, [], ◌∷◌, ◌++◌, get_or, refl, sym, ap, ap₂, ◌∙◌, append_assoc, append-nil}
use Rattle.std.specs.List.{flat_map}
use Rattle.hunk_words.proofs.LongLaws.{bytes_of-nil, bytes_of-append}
use Rattle.hunk_words.specs.Bits.{size_longs}
use Rattle.hunk_blocks.specs.Values.{RelocGroup, ExtEntry, SymbolEntry, BlockValue}
use Rattle.hunk_blocks.specs.BlockSteps.{ForName, ForCode, ForData, Filling, Counted, SizedCode, SizedData, Inside, AtCount, AtSize, InPayload, AtGroup, InOffsets, AtEntry, InName, AtExtWord, InExtName, AtExtCount, InExtOffsets, Open, group, step_inside, fill, name_entry, name_external, BlockNext}
use Rattle.hunk_files.specs.Image.{block_content, block_relocations, group_relocations, filled, relocated, add_at}
use Rattle.hunk_files.specs.OpenSegment.{filling_bytes, bytes_in, pairs_to, pairs_in, bytes_so_far, pairs_so_far, open_pairs, segment_so_far}
use Rattle.hunk_files.specs.FileSteps.{HunkSoFar}
use Rattle.hunk_files.proofs.object_walk.EntrySteps.{by_shape}
use Rattle.hunk_blocks.proofs.Lists.{map-more, flat_map-more}
use Rattle.std.proofs.lemmas.List.Sums.{fold-append}

-- what a longword adds to either
abbrev pub adds_bytes : Inside → ℕ → List ℕ
adds_bytes (InPayload f done owed) w = filling_bytes f (w ∷ [])
adds_bytes _ w = []

abbrev pub adds_pairs : Inside → ℕ → List (ℕ × ℕ)
adds_pairs (InOffsets groups target done owed) w = (w, target) ∷ []
adds_pairs _ w = []

-- what has come of a block has these content bytes and these relocations
abbrev pub Has : BlockNext → List ℕ → List (ℕ × ℕ) → Type 0
Has n bytes pairs = (bytes_so_far n ≡ bytes) × (pairs_so_far n ≡ pairs)

fill_has : (f : Filling) (done : List ℕ) (owed : ℕ) → Has (fill f done owed) (filling_bytes f done) []
fill_has (Counted ForName) done zero = (refl, refl)
fill_has _ done zero = (refl, refl)
fill_has f done (suc owed) = (refl, refl)

filling_more : (f : Filling) (done : List ℕ) (w : ℕ) → filling_bytes f (done ++ w ∷ []) ≡ filling_bytes f done ++ filling_bytes f (w ∷ [])
filling_more (Counted c) done w = refl
filling_more (SizedCode top) done w = bytes_of-append done (w ∷ [])
filling_more (SizedData top) done w = bytes_of-append done (w ∷ [])

name_has : (es : List SymbolEntry) (word : ℕ) (done : List ℕ) (owed : ℕ) → Has (name_entry es word done owed) [] []
name_has es word done zero = (refl, refl)
name_has es word done (suc owed) = (refl, refl)

external_has : (es : List ExtEntry) (word : ℕ) (done : List ℕ) (owed : ℕ) → Has (name_external es word done owed) [] []
external_has es word done zero = by_shape (λ n. Has n [] []) (word / 2 ^ 24) es word done (refl, refl) (refl, refl) (refl, refl) (refl, refl)
external_has es word done (suc owed) = (refl, refl)

-- A longword of a block adds its content bytes and its relocation.
pub step_has : (x : Inside) (w : ℕ) → Has (step_inside x w) (bytes_in x ++ adds_bytes x w) (pairs_in x ++ adds_pairs x w)
step_has (AtCount c) w = fill_has (Counted c) [] w
step_has (AtSize ForCode) w = let h = fill_has (SizedCode (w / 2 ^ 30)) [] (w % 2 ^ 30) in (h.0 ∙ bytes_of-nil, h.1)
step_has (AtSize ForData) w = let h = fill_has (SizedData (w / 2 ^ 30)) [] (w % 2 ^ 30) in (h.0 ∙ bytes_of-nil, h.1)
step_has (InPayload f done owed) w = let h = fill_has f (done ++ w ∷ []) owed in (h.0 ∙ filling_more f done w, h.1)
step_has (AtGroup groups) zero = (refl, sym (append-nil (flat_map group_relocations groups)))
step_has (AtGroup groups) (suc owed) = (refl, sym (append-nil (flat_map group_relocations groups)))
step_has (InOffsets groups target done zero) w = (
  refl,
  flat_map-more group_relocations groups (group target (done ++ w ∷ []))
      ∙ ap (λ (l : List (ℕ × ℕ)). flat_map group_relocations groups ++ l) (map-more (λ (o : ℕ). (o, target)) done w)
      ∙ sym (append_assoc (flat_map group_relocations groups) (pairs_to target done) ((w, target) ∷ [])),
)
step_has (InOffsets groups target done (suc owed)) w = (
  refl,
  ap (λ (l : List (ℕ × ℕ)). flat_map group_relocations groups ++ l) (map-more (λ (o : ℕ). (o, target)) done w)
      ∙ sym (append_assoc (flat_map group_relocations groups) (pairs_to target done) ((w, target) ∷ [])),
)
step_has (AtEntry entries) zero = (refl, refl)
step_has (AtEntry entries) (suc w) = name_has entries (suc w) [] (suc w % 2 ^ 24)
step_has (InName entries word done owed) w = name_has entries word (done ++ w ∷ []) owed
step_has (AtExtWord entries) zero = (refl, refl)
step_has (AtExtWord entries) (suc w) = external_has entries (suc w) [] (suc w % 2 ^ 24)
step_has (InExtName entries word done owed) w = external_has entries word (done ++ w ∷ []) owed
step_has (AtExtCount entries word name value) zero = (refl, refl)
step_has (InExtOffsets entries word name value done zero) w = (refl, refl)
step_has _ w = (refl, refl)

-- ---- the memory of the open hunk

-- An offset is one addition.
pub offset_adds : (bases : List ℕ) (o : HunkSoFar) (groups : List RelocGroup) (target : ℕ) (done : List ℕ) (owed w : ℕ) →
    segment_so_far bases o (step_inside (InOffsets groups target done owed) w)
    ≡ add_at (segment_so_far bases o (Open (InOffsets groups target done owed))) w (get_or bases target 0)
offset_adds bases o groups target done owed w =
    ap₂ (λ (bs : List ℕ) (ps : List (ℕ × ℕ)). relocated bases (filled (4 * size_longs o.entry.word) bs) ps)
    (ap (λ (bs : List ℕ). flat_map (λ (b : BlockValue). block_content b.body) o.blocks ++ bs) (step_has x w).0)
    (ap (λ (ps : List (ℕ × ℕ)). flat_map (λ (b : BlockValue). block_relocations b.body) o.blocks ++ ps) (step_has x w).1
    ∙ sym (append_assoc (flat_map (λ (b : BlockValue). block_relocations b.body) o.blocks) (pairs_in x) ((w, target) ∷ [])))
    ∙ fold-append (λ (b : List ℕ) (pair : ℕ × ℕ). add_at b pair.0 (get_or bases pair.1 0)) _ (open_pairs o (Open x)) ((w, target) ∷ [])
  where
    x : Inside
    x = InOffsets groups target done owed
