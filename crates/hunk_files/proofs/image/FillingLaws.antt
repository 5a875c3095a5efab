-- The memory of a hunk, block by block, and that of a file, hunk by hunk.
use Rattle.std.proofs.Common.{◌≡◌, ℕ, ◌+◌, ◌-◌, ◌*◌, ◌/◌, ◌≤◌, Bool, true, false, List, [], ◌∷◌, ◌++◌, length, get_or, take, drop, refl, sym, ap, ap₂, subst, ◌∙◌, append_assoc, append-nil, length-append, take-append-drop, arith}
use borrow.Rule.Slice.PartMut.{put_mid}
use Rattle.std.specs.List.{flat_map, fold, AllByRecursion}
use Rattle.std.proofs.lemmas.{List.{length-drop, length-take-le, take_all}, List.Folds.fold-map}
use Rattle.std.proofs.lemmas.{List.Sums.{fold-append, sum_by-cons}, Slice.{take-put_mid, drop-put_mid}}
use Rattle.hunk_words.specs.{Bits.size_longs, Longs.bytes_of}
use Rattle.hunk_blocks.proofs.{Fronts.All-right, Lists.flat_map-more}
use Rattle.hunk_blocks.specs.Values.{BlockBody, BlockValue, RelocGroup, Code, Data, Bss, Reloc, Ext, End}
use Rattle.hunk_grammar.specs.Standings.{is_content}
use Rattle.hunk_files.specs.Filling.{Fits, filled_by, memory_of}
use Rattle.hunk_files.specs.Image.{add_at, block_content, block_relocations, declared_bytes, filled, group_relocations, image, images, relocated}
use Rattle.hunk_files.specs.LoadFile.{HunkValue, LoadFileValue, TableEntry, AreInOrder, FitsHunk, IsHunk, IsHunkBlock, declared_longs, standing}
use Rattle.hunk_files.specs.LoadText.{table}
use Rattle.hunk_files.proofs.{walk.FileText.{no_more, standings}, walk.HunkOrder.by_standing}

-- ---- the groups that are left

-- One group less is left.
pub group_relocated : (bases memory : List ℕ) (g : RelocGroup) (left : List RelocGroup) (base : ℕ) → base ≡ get_or bases g.target 0 →
    relocated bases (fold (λ (bytes : List ℕ) (offset : ℕ). add_at bytes offset base) memory g.offsets) (flat_map group_relocations left)
    ≡ relocated bases memory (flat_map group_relocations (g ∷ left))
group_relocated bases memory g left base e =
    let add = λ (m : List ℕ) (pair : ℕ × ℕ). add_at m pair.0 (get_or bases pair.1 0) in
    rw e
    (ap (λ (m : List ℕ). relocated bases m (flat_map group_relocations left)) (sym (fold-map add (λ (offset : ℕ). (offset, g.target)) memory g.offsets))
    ∙ sym (fold-append add memory (group_relocations g) (flat_map group_relocations left)))

-- ---- the blocks that are left

abbrev pub contents : List BlockValue → List ℕ
contents bs = flat_map (λ (b : BlockValue). block_content b.body) bs

abbrev pub relocations_in : List BlockValue → List (ℕ × ℕ)
relocations_in bs = flat_map (λ (b : BlockValue). block_relocations b.body) bs

abbrev pub IsNoContent : BlockValue → Type 0
IsNoContent b = is_content (standing b.body) ≡ false

-- What they make of the memory is this. The flag says whether the content block came before them: until then the memory is any.
abbrev pub ComesTo : Bool → List ℕ → List BlockValue → List ℕ → List ℕ → Type 0
ComesTo false bases left memory all = AreInOrder false (standings left) × (memory_of bases (length memory) left ≡ all)
ComesTo true bases left memory all = AllByRecursion IsNoContent left × (relocated bases memory (relocations_in left) ≡ all)

-- after the content block there is none
no_content : (bs : List BlockValue) → AreInOrder true (standings bs) → AllByRecursion IsNoContent bs
no_content [] o = absurd o
no_content (b ∷ bs) o =
    by_standing (λ has s. has ≡ true → (is_content s ≡ false) × AllByRecursion IsNoContent bs) (standings bs)
    (λ has rest e. (refl, no_content bs (subst (λ (k : Bool). AreInOrder k (standings bs)) e rest)))
    (λ rest e. absurd cc)
    (λ rest e. (refl, no_content bs rest))
    (λ none e. (refl, subst (AllByRecursion IsNoContent) (sym (no_more bs none)) tt)) true (standing b.body) o refl

empty : (body : BlockBody) → is_content (standing body) ≡ false → block_content body ≡ []
empty (Code top words) e = absurd cc
empty (Data top words) e = absurd cc
empty _ e = refl

no_contents : (bs : List BlockValue) → AllByRecursion IsNoContent bs → contents bs ≡ []
no_contents [] h = refl
no_contents (b ∷ bs) h = ap₂ (λ (xs ys : List ℕ). xs ++ ys) (empty b.body h.0) (no_contents bs h.1)

module _ (bases : List ℕ) (left : List BlockValue) (memory all : List ℕ) where
  -- a content was put
  after_content : (bytes : List ℕ) → AreInOrder true (standings left) → relocated bases (filled (length memory) (bytes ++ contents left)) (relocations_in left) ≡ all →
      ComesTo true bases left (filled (length memory) bytes) all
  after_content bytes o e =
      let none = no_content left o in
      (none, ap (λ (c : List ℕ). relocated bases (filled (length memory) c) (relocations_in left)) (sym (append-nil bytes) ∙ ap (λ (c : List ℕ). bytes ++ c) (sym (no_contents left none))) ∙ e)

  -- One block less is left.
  goes_on : (has : Bool) (word : ℕ) (body : BlockBody) → ComesTo has bases (record { word = word; body = body } ∷ left) memory all → (now : Bool) × ComesTo now bases left (filled_by bases memory body) all
  goes_on false word (Code top words) c = (true, after_content (bytes_of words) c.0 c.1)
  goes_on false word (Data top words) c = (true, after_content (bytes_of words) c.0 c.1)
  goes_on false word (Bss size) c = (true, after_content [] c.0 c.1)
  goes_on false word (Reloc groups) c = absurd c.0
  goes_on false word (Ext entries) c = absurd c.0
  goes_on false word End c = absurd c.0
  goes_on false word _ c = (false, (c.0, c.1))
  goes_on true word (Code top words) c = absurd (let e : true ≡ false = c.0.0 in cc)
  goes_on true word (Data top words) c = absurd (let e : true ≡ false = c.0.0 in cc)
  goes_on true word (Bss size) c = absurd (let e : true ≡ false = c.0.0 in cc)
  goes_on true word (Reloc groups) c = (true, (c.0.1, sym (fold-append (λ (m : List ℕ) (pair : ℕ × ℕ). add_at m pair.0 (get_or bases pair.1 0)) memory (flat_map group_relocations groups) (relocations_in left)) ∙ c.1))
  goes_on true word _ c = (true, (c.0.1, c.1))

-- Memory of a hunk of which some blocks are left.
pub record LeftToFill (hunks : ℕ) (bases : List ℕ) (size : ℕ) (left : List BlockValue) (memory all : List ℕ) : Type 0 where
  pub each : AllByRecursion (λ (b : BlockValue). FitsHunk hunks (size / 4) b.body) left
  pub has : Bool
  pub comes : ComesTo has bases left memory all

module _ {hunks : ℕ} {bases : List ℕ} {size : ℕ} {old : List BlockValue} {memory all : List ℕ} (l : LeftToFill hunks bases size old memory all) where
  -- the next block
  module _ (b : BlockValue) (new : List BlockValue) (is : old ≡ b ∷ new) where
    pub block_filled : (body : BlockBody) (more : List ℕ) → body ≡ b.body → more ≡ filled_by bases memory body → LeftToFill hunks bases size new more all
    block_filled body more same e =
        let on = goes_on bases new memory all l.has b.word b.body (subst (λ (bs : List BlockValue). ComesTo l.has bases bs memory all) is l.comes) in
        record {
          each = (subst (AllByRecursion (λ (x : BlockValue). FitsHunk hunks (size / 4) x.body)) is l.each).1;
          has = on.0;
          comes = subst (λ (m : List ℕ). ComesTo on.0 bases new m all) (sym (e ∙ ap (filled_by bases memory) same)) on.1;
        }

-- ---- the hunks that are left

pub hunk_fits : (hunks : ℕ) (h : HunkValue) (size : ℕ) → IsHunk hunks h → size ≡ 4 * declared_longs h → Fits hunks size h.blocks
hunk_fits hunks h size is e = record { each = subst (λ (n : ℕ). AllByRecursion (λ (b : BlockValue). FitsHunk hunks n b.body) h.blocks) longs (each h.blocks is.blocks); order = is.order }
  where
    longs : declared_longs h ≡ size / 4
    longs = omega (arith, e)

    each : (bs : List BlockValue) → AllByRecursion (IsHunkBlock hunks (declared_longs h)) bs → AllByRecursion (λ (b : BlockValue). FitsHunk hunks (declared_longs h) b.body) bs
    each [] k = tt
    each (b ∷ bs) k = (k.0.fits, each bs k.1)

-- Memory of a file of which some hunks are left, from this byte of the memory on.
pub record ImagesLeft (bases : List ℕ) (all left : LoadFileValue) (start : ℕ) (memory : List ℕ) : Type 0 where
  pub done : LoadFileValue
  pub split : all ≡ done ++ left
  pub room : start + declared_bytes (table left) ≡ length memory
  pub images_are : take start memory ≡ images bases done

pub no_images : (bases : List ℕ) (all left : LoadFileValue) (memory : List ℕ) → left ≡ all → length memory ≡ declared_bytes (table all) → ImagesLeft bases all left 0 memory
no_images bases all left memory e room = record { done = []; split = sym e; room = omega (arith, ap (λ (v : LoadFileValue). declared_bytes (table v)) e, room); images_are = refl }

-- ---- a part of the memory

module _ (start size : ℕ) (memory : List ℕ) (fits : start + size ≤ length memory) where
  pub part_size : length (take (start + size - start) (drop start memory)) ≡ size
  part_size =
      let n : start + size - start ≡ size = omega arith in
      ap (λ (k : ℕ). length (take k (drop start memory))) n ∙ length-take-le size (drop start memory) (omega (arith, length-drop start memory, fits))

  -- It was written anew.
  put_part : (part : List ℕ) → length part ≡ size →
      (take (start + size) (put_mid start (start + size - start) memory part) ≡ take start memory ++ part) × (length (put_mid start (start + size - start) memory part) ≡ length memory)
  put_part part long =
      let k = start + size - start in
      let new = put_mid start k memory part in
      let front = take-put_mid start k memory part (start + size) (omega (arith, long)) (omega (arith, fits)) in
      let back = drop-put_mid start k memory part (start + size) (omega arith) (omega (arith, fits)) (omega (arith, long)) in (
        front,
        omega (
          arith,
          ap length (sym (take-append-drop (start + size) new)),
          length-append (take (start + size) new) (drop (start + size) new),
          ap length front,
          ap length back,
          length-append (take start memory) part,
          length-take-le start memory (omega (arith, fits)),
          length-drop (start + size) memory,
          long,
          fits,
        ),
      )

-- ---- the hunk that comes next

module _ {bases : List ℕ} {all left : LoadFileValue} {start : ℕ} {memory : List ℕ} (s : ImagesLeft bases all left start memory) where
  module _ (h : HunkValue) (later : LoadFileValue) (is : left ≡ h ∷ later) where
    whole : all ≡ s.done ++ h ∷ later
    whole = s.split ∙ ap (λ (v : LoadFileValue). s.done ++ v) is

    bytes_left : declared_bytes (table left) ≡ 4 * declared_longs h + declared_bytes (table later)
    bytes_left = ap (λ (v : LoadFileValue). declared_bytes (table v)) is ∙ sum_by-cons (λ (e : TableEntry). 4 * size_longs e.word) h.entry (table later)

    pub hunk_room : start + 4 * declared_longs h ≤ length memory
    hunk_room = omega (arith, s.room, bytes_left)

    pub next_fits : (hunks size : ℕ) → AllByRecursion (IsHunk hunks) all → size ≡ 4 * declared_longs h → Fits hunks size h.blocks
    next_fits hunks size each = hunk_fits hunks h size (All-right (IsHunk hunks) s.done (h ∷ later) (subst (AllByRecursion (IsHunk hunks)) whole each)).0

    pub image_put : (size : ℕ) (part : List ℕ) → size ≡ 4 * declared_longs h → length part ≡ size → part ≡ image bases h → ImagesLeft bases all later (start + size) (put_mid start (start + size - start) memory part)
    image_put size part e long p =
        let put = put_part start size memory (omega (arith, hunk_room, e)) part long in
        record {
          done = s.done ++ h ∷ [];
          split = whole ∙ sym (append_assoc s.done (h ∷ []) later);
          room = omega (arith, s.room, bytes_left, put.1, e);
          images_are = put.0 ∙ ap₂ (λ (xs ys : List ℕ). xs ++ ys) s.images_are p ∙ sym (flat_map-more (image bases) s.done h);
        }

  pub all_put : left ≡ [] → memory ≡ images bases all
  all_put none =
      sym (take_all start memory (omega (arith, s.room, ap (λ (v : LoadFileValue). declared_bytes (table v)) none)))
      ∙ s.images_are ∙ ap (images bases) (sym (append-nil s.done) ∙ ap (λ (v : LoadFileValue). s.done ++ v) (sym none) ∙ sym s.split)
