-- No longword of a load text is refused.
use Rattle.std.proofs.Common.{rules, ◌≡◌, ◌≢◌, ℕ, ◌+◌, ◌-◌, ◌*◌, ◌^◌, ◌<◌, ◌≤◌, Bool, true, false, ◌||◌, ltb, eqb, List, [], ◌∷◌, length, map, refl, sym, ap, ap₂, ◌∙◌, arith, Some, None}
use Rattle.std.specs.List.{flat_map, AllByRecursion}
use Rattle.std.proofs.lemmas.{Bool.{lt-ltb, le-ltb, eq-eqb}, List.length-map}
use Rattle.hunk_words.specs.declared.reason.Reason.TheVariants as reasons
use Rattle.hunk_words.specs.{Bits.size_longs, Longs.{IsLong, AreLongs}}
use Rattle.hunk_blocks.specs.Values.{RelocGroup, SymbolEntry, BlockBody, BlockValue, Name, Code, Data, Bss, Reloc, Ext, Symbol, Advisory, End, FitsWord, IsPayload, IsGroup, IsSymbolEntry}
use Rattle.hunk_grammar.specs.BlockParts.{Part, Part as parts}
use Rattle.hunk_blocks.specs.Parts.{each, group_parts, symbol_parts, body_parts, block_parts}
use Rattle.hunk_blocks.specs.Modes.{IsOfLoadMode}
use Rattle.hunk_grammar.specs.declared.mode.Mode.TheVariants as modes
use Rattle.hunk_files.specs.LoadFile.{TableEntry, LoadFileValue, IsTableEntry, standing, AreInOrder, IsInside, FitsGroup, FitsHunk, IsHunkBlock, IsHunk, IsLoadFile, declared_longs}
use Rattle.hunk_files.specs.LoadText.{entry_labelled, header_labelled, block_labelled, blocks_labelled, hunk_labelled, table, labelled}
use Rattle.hunk_files.specs.WordsRead.{IsAccepted, AreAccepted}
use Rattle.hunk_grammar.specs.Standings.{BlockStanding, Beside, Content, Relocating, Ending, first_of, is_content, refuse_standing}
use Rattle.hunk_grammar.specs.Roles.{Place, InBlock, refuse, refuse_part, Role as roles}
use Rattle.hunk_grammar.proofs.BlockWords.{word_split}
use Rattle.hunk_files.proofs.{walk.FileText.{standings, entries_fit}, walk.HunkOrder.standing_is, walk.FileProgress.place_in}
use Rattle.hunk_blocks.proofs.{Lists.{passes_else, passes_then, All-append}, Admitted.word_passes}

pub All-flat_map : {A B : Type 0} (P : A → Type 0) (Q : B → Type 0) (f : A → List B) → ((x : A) → P x → AllByRecursion Q (f x)) → (xs : List A) → AllByRecursion P xs → AllByRecursion Q (flat_map f xs)
All-flat_map P Q f each [] h = tt
All-flat_map P Q f each (x ∷ xs) h = All-append Q (f x) (flat_map f xs) (each x h.0) (All-flat_map P Q f each xs h.1)

pub All-map : {A B : Type 0} (P : A → Type 0) (Q : B → Type 0) (f : A → B) → ((x : A) → P x → Q (f x)) → (xs : List A) → AllByRecursion P xs → AllByRecursion Q (map f xs)
All-map P Q f each [] h = tt
All-map P Q f each (x ∷ xs) h = (each x h.0, All-map P Q f each xs h.1)

-- ---- the parts of a block

module _ (p : Place) where
  abbrev pub PartPasses : Part × ℕ → Type 0
  PartPasses x = IsLong x.1 × (refuse_part p x.0 x.1 ≡ None)

  abbrev pub PartsPass : List (Part × ℕ) → Type 0
  PartsPass ps = AllByRecursion PartPasses ps

  payload_passes : (ws : List ℕ) → AreLongs ws → PartsPass (each parts.Payload ws)
  payload_passes ws h = All-map IsLong PartPasses (λ (w : ℕ). (parts.Payload, w)) (λ w l. (l, refl)) ws h

  names_pass : (ws : List ℕ) → AreLongs ws → PartsPass (each parts.EntryName ws)
  names_pass ws h = All-map IsLong PartPasses (λ (w : ℕ). (parts.EntryName, w)) (λ w l. (l, refl)) ws h

  counted_passes : (ws : List ℕ) → IsPayload (2 ^ 32) ws → PartsPass ((parts.LongCount, length ws) ∷ each parts.Payload ws)
  counted_passes ws h = ((h.0, refl), payload_passes ws h.1)

  size_passes : (w : ℕ) → IsLong w → size_longs w ≤ p.longs → PartPasses (parts.ContentSize, w)
  size_passes w l h = (l, passes_else (ltb p.longs (size_longs w)) (Some reasons.ContentTooLong) None (le-ltb p.longs (size_longs w) h))

  sized_size_passes : (top n : ℕ) → top < 4 → n < 2 ^ 30 → n ≤ p.longs → PartPasses (parts.ContentSize, top * 2 ^ 30 + n)
  sized_size_passes top n t l h = size_passes (top * 2 ^ 30 + n) (omega arith) (omega arith)

  offset_passes : (w : ℕ) → IsLong w → IsInside p.longs w → PartPasses (parts.Offset, w)
  offset_passes w l h = (l, passes_else (ltb (4 * p.longs) (w + 4)) (Some reasons.BadOffset) None (le-ltb (4 * p.longs) (w + 4) h))

  offsets_pass : (ws : List ℕ) → AreLongs ws → AllByRecursion (IsInside p.longs) ws → PartsPass (each parts.Offset ws)
  offsets_pass [] l h = tt
  offsets_pass (w ∷ ws) l h = (offset_passes w l.0 h.0, offsets_pass ws l.1 h.1)

  target_passes : (w : ℕ) → IsLong w → w < p.hunks → PartPasses (parts.Target, w)
  target_passes w l h = (l, passes_then (ltb w p.hunks) None (Some reasons.BadTarget) (lt-ltb w p.hunks h))

  some_inside : (ws : List ℕ) → ws ≢ [] → AllByRecursion (IsInside p.longs) ws → p.longs ≡ 0 → ⊥
  some_inside [] some h e = absurd (some refl)
  some_inside (w ∷ ws) some h e = omega (arith, h.0)

  group_count_passes : (w : ℕ) → IsLong w → (p.longs ≡ 0 → ⊥) → PartPasses (parts.GroupCount, w)
  group_count_passes w l h = search rules

  group_passes : (g : RelocGroup) → IsGroup g → FitsGroup p.hunks p.longs g → PartsPass (group_parts g)
  group_passes g h f =
      (group_count_passes (length g.offsets) h.offsets.0 (some_inside g.offsets h.some f.1), (target_passes g.target h.target f.0, offsets_pass g.offsets h.offsets.1 f.1))

  groups_pass : (gs : List RelocGroup) → AllByRecursion IsGroup gs → AllByRecursion (FitsGroup p.hunks p.longs) gs → PartsPass (flat_map group_parts gs)
  groups_pass [] h f = tt
  groups_pass (g ∷ gs) h f = All-append PartPasses (group_parts g) (flat_map group_parts gs) (group_passes g h.0 f.0) (groups_pass gs h.1 f.1)

  symbol_passes : (s : SymbolEntry) → IsSymbolEntry s → PartsPass (symbol_parts s)
  symbol_passes s h = ((h.entry_word.fits, refl), All-append PartPasses (each parts.EntryName s.name) ((parts.EntryValue, s.value) ∷ []) (names_pass s.name h.entry_word.longs) ((h.value, refl), tt))

  body_passes : (word : ℕ) (body : BlockBody) → FitsWord word body → IsOfLoadMode word body → FitsHunk p.hunks p.longs body → PartsPass (body_parts body)
  body_passes word (Name ws) h m f = ((omega (arith, h.1.0), passes_then (ltb (length ws) (2 ^ 24)) None (Some reasons.NameWord) (lt-ltb (length ws) (2 ^ 24) h.1.0)), payload_passes ws h.1.1)
  body_passes word (Code top ws) h m f = (sized_size_passes top (length ws) h.1 h.2.0 f, payload_passes ws h.2.1)
  body_passes word (Data top ws) h m f = (sized_size_passes top (length ws) h.1 h.2.0 f, payload_passes ws h.2.1)
  body_passes word (Bss size) h m f = (size_passes size h.1 f, tt)
  body_passes word (Reloc gs) h m f = All-append PartPasses (flat_map group_parts gs) ((parts.GroupCount, 0) ∷ []) (groups_pass gs h.1 f) ((omega arith, refl), tt)
  body_passes word (Ext es) h m f = absurd m
  body_passes word (Symbol es) h m f =
      All-append PartPasses (flat_map symbol_parts es) ((parts.EntryWord, 0) ∷ []) (All-flat_map IsSymbolEntry PartPasses symbol_parts symbol_passes es h.1) ((omega arith, refl), tt)
  body_passes word (Advisory ws) h m f = counted_passes _ h.2
  body_passes word End h m f = tt
  body_passes word _ h m f = counted_passes _ h.1

-- ---- the block word, where the block may stand

-- what stands in order is not refused for its place
order_passes : (has : Bool) (s : BlockStanding) (later : List BlockStanding) → AreInOrder has (s ∷ later) → refuse_standing has s ≡ None
order_passes true Content later o = absurd o
order_passes false Relocating later o = absurd o
order_passes false Ending later o = absurd o
order_passes _ _ later o = refl

block_passes : (p : Place) (b : BlockValue) (later : List BlockStanding) → IsHunkBlock p.hunks p.longs b → AreInOrder p.has_content (standing b.body ∷ later) → PartsPass p (block_parts b)
block_passes p b later h o = (
  (
    h.block.word,
    word_split p.has_content b.word
        ∙ ap₂ first_of (word_passes modes.Load b h.block h.mode)
        (ap (refuse_standing p.has_content) (sym (standing_is b.word b.body h.block.body)) ∙ order_passes p.has_content (standing b.body) later o),
  ),
  body_passes p b.word b.body h.block.body h.mode h.fits,
)

block_accepted : (p : Place) (b : BlockValue) (later : List BlockStanding) → IsHunkBlock p.hunks p.longs b → AreInOrder p.has_content (standing b.body ∷ later) → AreAccepted (block_labelled p b)
block_accepted p b later h o = All-map (PartPasses p) IsAccepted (λ (x : Part × ℕ). (InBlock p x.0, x.1)) (λ x k. k) (block_parts b) (block_passes p b later h o)

module _ (hunks longs : ℕ) where
  abbrev RestPasses : List BlockValue → Type 0
  RestPasses more = (has_content : Bool) → AreInOrder has_content (standings more) → AreAccepted (blocks_labelled hunks longs has_content more)

  rest_passes : (s : BlockStanding) (has_content : Bool) (more : List BlockValue) → AreInOrder has_content (s ∷ standings more) → RestPasses more → AreAccepted (blocks_labelled hunks longs (has_content || is_content s) more)
  rest_passes Beside true more o rest = rest true o
  rest_passes Beside false more o rest = rest false o
  rest_passes Content false more o rest = rest true o
  rest_passes Relocating true more o rest = rest true o
  rest_passes Ending true [] o rest = tt
  rest_passes Ending true (c ∷ more) o rest = absurd cc
  rest_passes _ _ more o rest = absurd o

  blocks_accepted : (more : List BlockValue) → AllByRecursion (IsHunkBlock hunks longs) more → RestPasses more
  blocks_accepted [] h has_content o = tt
  blocks_accepted (b ∷ more) h has_content o =
      All-append IsAccepted (block_labelled (place_in hunks longs has_content) b) (blocks_labelled hunks longs (has_content || is_content (standing b.body)) more)
      (block_accepted (place_in hunks longs has_content) b (standings more) h.0 o)
      (rest_passes (standing b.body) has_content more o (λ has order. blocks_accepted more h.1 has order))

-- ---- the header

entry_accepted : (e : TableEntry) → IsTableEntry e → AreAccepted (entry_labelled e)
entry_accepted e h = search rules

count_accepted : (n : ℕ) → 0 < n → n ≤ 65536 → refuse roles.TableSize n ≡ None
count_accepted n some most = search rules

pub last_accepted : (n : ℕ) → 0 < n → refuse (roles.LastHunk n) (n - 1) ≡ None
last_accepted n some = passes_then (eqb (n - 1 + 1) n) None (Some reasons.LastHunk) (eq-eqb (n - 1 + 1) n (omega arith))

pub header_accepted : (t : List TableEntry) → 0 < length t → length t ≤ 65536 → AllByRecursion IsTableEntry t → AreAccepted (header_labelled t)
header_accepted t some most h = (
  (omega arith, refl),
  (
    (omega arith, refl),
    (
      (omega arith, count_accepted (length t) some most),
      (
        (omega arith, refl),
        (
          (omega arith, last_accepted (length t) some),
          All-flat_map IsTableEntry IsAccepted entry_labelled entry_accepted t h,
        ),
      ),
    ),
  ),
)

-- No longword of a load text is refused at its role.
pub labelled_accepted : (v : LoadFileValue) → IsLoadFile v → AreAccepted (labelled v)
unfolding labelled
labelled_accepted v h =
    All-append IsAccepted (header_labelled (table v)) (flat_map (hunk_labelled (length v)) v)
    (header_accepted (table v) (omega (arith, h.some, length-map v (λ x. x.entry))) (omega (arith, h.most, length-map v (λ x. x.entry))) (entries_fit (length v) v h.each))
    (All-flat_map (IsHunk (length v)) IsAccepted (hunk_labelled (length v)) (λ x k. blocks_accepted (length v) (declared_longs x) x.blocks k.blocks false k.order) v h.each)
