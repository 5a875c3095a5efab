-- Each longword keeps what the store holds.
use Rattle.std.proofs.Common.{rules, ◌≡◌, ℕ, suc, ◌+◌, ◌-◌, ◌*◌, ◌≤◌, false, List, [], ◌∷◌, ◌++◌, length, get_or, refl, sym, ap, ap₂, ◌∙◌, arith, ltb, None}
use Rattle.std.proofs.lemmas.Grind.{common_steps}
use Rattle.std.proofs.lemmas.Bool.{ltb-false}
use Rattle.std.specs.{List.{flat_map, AllByRecursion}, Int.{w32, to_be_bytes}}
use Rattle.hunk_words.specs.{Bits.size_longs, Longs.{bytes_of, IsLong}}
use Rattle.hunk_words.specs.declared.block_word.Kind.TheVariants as kinds
use Rattle.hunk_words.specs.declared.reason.Reason.TheVariants as reasons
use Rattle.hunk_files.specs.{Image.{add_at, images, filled, block_content, block_relocations}, LoadFile.{TableEntry, HunkValue}}
use Rattle.hunk_files.specs.FileSteps.{HunkSoFar, Progress, AtBlock, InBody, More, place_of, role_of, open_hunk, after, step_file}
use Rattle.hunk_files.specs.{OpenSegment.{segment_so_far, bytes_so_far, pairs_so_far, bytes_in, pairs_in}, ReaderPosition.position_of}
use Rattle.hunk_blocks.specs.BlockSteps.{ForName, ForCode, SizedCode, SizedData, Inside, AtCount, AtSize, InPayload, InOffsets, InExtName, BlockNext, Open, part_of, step_inside}
use Rattle.hunk_grammar.specs.Roles.{refuse, refuse_part}
use Rattle.hunk_files.proofs.{walk.FileProgress.{ProgressFits, IsAdmitted, kind_is}, walk.Memory.{adds_bytes, adds_pairs, step_has, offset_adds}}
use Rattle.hunk_files.proofs.walk.HunkProgress as blocks
use Rattle.hunk_blocks.proofs.Lists.{passed_false}
use Rattle.hunk_scatter.specs.{StoreContent.{zeros, HasSizedImage, Holds, StoreHolds, put_at, stored_in, stored_long}, BodyReader.{state_of, before}}
use Rattle.hunk_scatter.proofs.StoredBytes.{put-join, add-join, length-put, long_fills}
use Rattle.hunk_words.proofs.LongLaws.{length-bytes_of, bytes_of-one}

abbrev contents_of : HunkSoFar → List ℕ
contents_of o = flat_map (λ b. block_content b.body) o.blocks

abbrev pairs_of : HunkSoFar → List (ℕ × ℕ)
pairs_of o = flat_map (λ b. block_relocations b.body) o.blocks

-- ---- a segment that is as it was

holds_as : (bases : List ℕ) (o : HunkSoFar) (n m : BlockNext) (store : List ℕ) → segment_so_far bases o m ≡ segment_so_far bases o n → Holds bases o n store → Holds bases o m store
holds_as bases o n m store e h = search rules

nothing_added : (bases : List ℕ) (o : HunkSoFar) (x : Inside) (w : ℕ) → adds_bytes x w ≡ [] → adds_pairs x w ≡ [] → segment_so_far bases o (step_inside x w) ≡ segment_so_far bases o (Open x)
nothing_added bases o x w e d = search (rules, step_has)

-- ---- a segment in which four bytes are replaced

pub length-images : (bases : List ℕ) (hs : List HunkValue) → AllByRecursion (HasSizedImage bases) hs → length (images bases hs) ≡ before hs
length-images bases [] h = refl
length-images bases (x ∷ hs) h = grind (arith, common_steps, length-images bases hs h.1)

put_holds : (bases : List ℕ) (o : HunkSoFar) (n m : BlockNext) (store : List ℕ) (k : ℕ) (four : List ℕ) → length four ≡ 4 → k + 4 ≤ 4 * size_longs o.entry.word →
    segment_so_far bases o m ≡ put_at (segment_so_far bases o n) k four → Holds bases o n store → Holds bases o m (put_at store (before o.finished + k) four)
put_holds bases o n m store k four l fits e h = search (rules, length-put, length-images, put-join)

add_holds : (bases : List ℕ) (o : HunkSoFar) (n m : BlockNext) (store : List ℕ) (k base : ℕ) → k + 4 ≤ 4 * size_longs o.entry.word →
    segment_so_far bases o m ≡ add_at (segment_so_far bases o n) k base → Holds bases o n store → Holds bases o m (add_at store (before o.finished + k) base)
add_holds bases o n m store k base fits e h =
    let inside : k + 4 ≤ length (segment_so_far bases o n) = omega (arith, h.segment) in
    record {
      front = h.front;
      segment = ap length e ∙ length-put (segment_so_far bases o n) k _ refl inside ∙ h.segment;
      unplaced = h.unplaced;
      store_is =
          ap₂ (λ (s : List ℕ) (at : ℕ). add_at s (at + k) base) h.store_is (sym (length-images bases o.finished h.front))
          ∙ add-join (images bases o.finished) (segment_so_far bases o n) (zeros o.ahead) k inside base
          ∙ ap (λ (s : List ℕ). images bases o.finished ++ (s ++ zeros o.ahead)) (sym e);
    }

-- ---- within a block

-- while the content comes, the segment is what has come of it
content_only : (bases : List ℕ) (o : HunkSoFar) (n : BlockNext) (c : List ℕ) → contents_of o ≡ [] → pairs_of o ≡ [] → bytes_so_far n ≡ c → pairs_so_far n ≡ [] →
    segment_so_far bases o n ≡ filled (4 * size_longs o.entry.word) c
content_only bases o n c e d f g = search rules

inside_holds : (bases : List ℕ) (o : HunkSoFar) (word : ℕ) (x : Inside) (w : ℕ) (store : List ℕ) → IsAdmitted o word → blocks.Fits (place_of o) word x →
    refuse_part (place_of o) (part_of x) w ≡ None → Holds bases o (Open x) store → Holds bases o (step_inside x w) (stored_in bases (before o.finished) (position_of (More (InBody o word x))) w store)
inside_holds bases o word x w store a f ok h = go x f ok h
  where
    idle : (y : Inside) → adds_bytes y w ≡ [] → adds_pairs y w ≡ [] → Holds bases o (Open y) store → Holds bases o (step_inside y w) store
    idle y e d k = holds_as bases o (Open y) (step_inside y w) store (nothing_added bases o y w e d) k

    -- a longword of the content, which is the first of the hunk
    content : (y : Inside) (done : List ℕ) (owed : ℕ) → bytes_in y ≡ bytes_of done → pairs_in y ≡ [] → adds_bytes y w ≡ bytes_of (w ∷ []) → adds_pairs y w ≡ [] →
        o.has_content ≡ false → length done + suc owed ≤ size_longs o.entry.word → Holds bases o (Open y) store →
        Holds bases o (step_inside y w) (put_at store (before o.finished + 4 * (length done + suc owed - owed - 1)) (to_be_bytes w32 w))
    content y done owed b p e d early fits k =
        let four : List ℕ = to_be_bytes w32 w in
        let size : ℕ = 4 * size_longs o.entry.word in
        let u = k.unplaced early in
        let n = step_has y w in
        let more : bytes_so_far (step_inside y w) ≡ bytes_of done ++ four = n.0 ∙ ap₂ (λ (xs ys : List ℕ). xs ++ ys) b (e ∙ bytes_of-one w) in
        let place : length (bytes_of done) ≡ 4 * (length done + suc owed - owed - 1) = omega (arith, length-bytes_of done) in
        put_holds bases o (Open y) (step_inside y w) store _ four refl (omega (arith, fits))
        (content_only bases o (step_inside y w) (bytes_of done ++ four) u.0 u.1 more (n.1 ∙ ap₂ (λ (xs ys : List (ℕ × ℕ)). xs ++ ys) p d)
        ∙ long_fills size (bytes_of done) four refl (omega (arith, length-bytes_of done, fits))
        ∙ ap₂ (λ (s : List ℕ) (at : ℕ). put_at s at four) (sym (content_only bases o (Open y) (bytes_of done) u.0 u.1 b p)) place) k

    go : (y : Inside) → blocks.Fits (place_of o) word y → refuse_part (place_of o) (part_of y) w ≡ None → Holds bases o (Open y) store →
        Holds bases o (step_inside y w) (stored_in bases (before o.finished) (position_of (More (InBody o word y))) w store)
    go (InPayload (SizedCode top) done owed) f ok k =
        content (InPayload (SizedCode top) done owed) done owed refl refl refl refl
        (passed_false o.has_content reasons.SecondContent (kind_is o word kinds.Code a f.0.0.0)) f.1 k
    go (InPayload (SizedData top) done owed) f ok k =
        content (InPayload (SizedData top) done owed) done owed refl refl refl refl
        (passed_false o.has_content reasons.SecondContent (kind_is o word kinds.Data a f.0.0.0)) f.1 k
    go (InOffsets groups target done owed) f ok k =
        let y : Inside = InOffsets groups target done owed in
        let room : w + 4 ≤ 4 * size_longs o.entry.word = ltb-false (4 * size_longs o.entry.word) (w + 4) (passed_false (ltb (4 * size_longs o.entry.word) (w + 4)) reasons.BadOffset ok) in
        add_holds bases o (Open y) (step_inside y w) store w (get_or bases target 0) room (offset_adds bases o groups target done owed w) k
    go (InExtName es v done owed) f ok k = absurd f.1
    go (AtCount ForName) f ok k = idle (AtCount ForName) refl refl k
    go (AtSize ForCode) f ok k = idle (AtSize ForCode) refl refl k
    go _ f ok k = idle _ refl refl k

-- ---- between blocks

-- the hunks with these entries are all zero so far
zero_holds : (bases : List ℕ) (hunks : ℕ) (finished : List HunkValue) (ahead : List TableEntry) (store : List ℕ) → AllByRecursion (HasSizedImage bases) finished →
    store ≡ images bases finished ++ zeros ahead → StoreHolds bases (open_hunk hunks finished ahead) store
zero_holds bases hunks finished ahead store f e = grind (arith, common_steps)

after_holds : (bases : List ℕ) (o : HunkSoFar) (word : ℕ) (n : BlockNext) (store : List ℕ) → IsAdmitted o word → blocks.NextFits (place_of o) word n →
    Holds bases o n store → StoreHolds bases (after o word n) store
after_holds bases o word n store a f h = grind (arith, common_steps)

-- A longword that is not refused keeps what the store holds.
pub step_holds : (bases : List ℕ) (p : Progress) (w : ℕ) (store : List ℕ) → ProgressFits p → IsLong w → refuse (role_of p) w ≡ None → StoreHolds bases (More p) store →
    StoreHolds bases (step_file p w) (stored_long bases (state_of (More p)) w store)
step_holds bases (AtBlock o) w store f l ok h = grind (arith, common_steps)
step_holds bases (InBody o word x) w store f l ok h =
    after_holds bases o word (step_inside x w) (stored_in bases (before o.finished) (position_of (More (InBody o word x))) w store) f.1 (blocks.step_fits (place_of o) word x w f.2 l ok)
    (inside_holds bases o word x w store f.1 f.2 ok h)
step_holds bases _ w store f l ok h = absurd h

-- The store of zero bytes holds what is there after the header.
pub start_holds : (bases : List ℕ) (table : List TableEntry) → StoreHolds bases (open_hunk (length table) [] table) (zeros table)
start_holds bases table = zero_holds bases (length table) [] table (zeros table) tt refl
