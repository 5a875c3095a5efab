-- From which bytes the blocks of a hunk come.
use Rattle.std.proofs.Common.{◌≡◌, ℕ, ◌+◌, ◌*◌, ◌%◌, ◌^◌, ◌<◌, Bool, true, false, ◌||◌, List, [], ◌∷◌, ◌++◌, map, refl, sym, ap, subst, ◌∙◌, append_assoc, inl, inr, Some, None, arith}
use Rattle.std.specs.{Prelude.IsTrue, Int.{to_be_bytes, w32}, List.{flat_map, AllByRecursion}}
use Rattle.hunk_words.specs.declared.block_word.Kind.{Kind}
use Rattle.hunk_words.specs.declared.block_word.Kind.TheVariants as kinds
use Rattle.hunk_words.specs.declared.reason.Reason.TheVariants as reasons
use Rattle.hunk_words.specs.{Bits.{end_word, flags, is_relocation, kind, kind_of_number}, Longs.{IsBytes, bytes_of}}
use Rattle.hunk_words.proofs.LongLaws.{bytes_of-append}
use Rattle.hunk_blocks.specs.{Faults.words, Modes.IsOfLoadMode, Parts.{block_parts, body_parts, body_text, each, group_parts, group_text, list_text, symbol_parts}}
use Rattle.hunk_blocks.specs.Values.{BlockBody, BlockValue, Name, Code, Data, Bss, Reloc, Ext, Symbol, Debug, Advisory, End, FitsWord, RelocGroup, SymbolEntry, is_unknown}
use Rattle.hunk_blocks.proofs.{FaultLaws.words-append, Fronts.{All-left, All-right}, PartTexts.body_text_is}
use Rattle.hunk_grammar.specs.BlockParts.{Part, Part as parts}
use Rattle.hunk_grammar.specs.declared.phase.Phase.{Phase}
use Rattle.hunk_grammar.specs.declared.phase.Phase.TheVariants as phases
use Rattle.hunk_grammar.specs.declared.position.OpenHunk.{OpenHunk}
use Rattle.hunk_grammar.specs.declared.position.Position.{Position}
use Rattle.hunk_grammar.specs.declared.position.Position.TheVariants as positions
use Rattle.hunk_grammar.specs.Positions.{at, close, step}
use Rattle.hunk_grammar.specs.Roles.{InBlock, Place, Role, refuse}
use Rattle.hunk_grammar.specs.Standings.{BlockStanding, Content, Relocating, Ending, is_content}
use Rattle.hunk_files.specs.LoadFile.{AreInOrder, IsHunkBlock, standing}
use Rattle.hunk_files.specs.LoadText.{block_labelled, blocks_labelled}
use Rattle.hunk_files.specs.WordsRead.{AreAccepted, Labelled}
use Rattle.hunk_wide.specs.declared.position.FilePosition.TheVariants as files
use Rattle.hunk_wide.specs.declared.spot.Spot.{Spot}
use Rattle.hunk_wide.specs.declared.spot.Spot.TheVariants.{Long, Half}
use Rattle.hunk_wide.specs.declared.spot.ShortPart.TheVariants.{Count}
use Rattle.hunk_wide.specs.Counts.{short_in_blocks, short_of}
use Rattle.hunk_wide.specs.Longwords.{after_short, go_on, long_word}
use Rattle.hunk_wide.specs.Plain.{plain_from}
use Rattle.hunk_wide.specs.Spellings.{one_if}
use Rattle.hunk_wide.specs.Wide.{IsShort, SpellsBlock, SpellsBlocks, end_block, filled, halves_of, is_short}
use Rattle.hunk_wide.proofs.{FromShort.{All-both, NextWord, list_comes}, Short.groups_fit, Spelled.{IsContentKind, order_next, words_in}, Steps.{Along, AtBlock, along_run, along_split, at_block, run, run_list, word_begins}}
use Rattle.hunk_wide.proofs.From.{Comes, IsInner, IsInnerPart, back_bytes, comes_as, inner_come, none_comes, two_come, word_says}
use Rattle.hunk_wide.proofs.FromWords.{Kept, Put, PutBefore, Short, WordComes, block_word_from, first_word_from}

-- ---- longwords of a block after its word

abbrev AreInner : List (Part × ℕ) → Type 0
AreInner ps = AllByRecursion (λ (x : Part × ℕ). IsInnerPart x.0) ps

each_inner : (part : Part) (ws : List ℕ) → IsInnerPart part → AreInner (each part ws)
each_inner part [] h = tt
each_inner part (w ∷ ws) h = (h, each_inner part ws h)

all_inner : {A : Type 0} (parts_of : A → List (Part × ℕ)) → ((x : A) → AreInner (parts_of x)) → (xs : List A) → AreInner (flat_map parts_of xs)
all_inner parts_of h [] = tt
all_inner parts_of h (x ∷ xs) = All-both _ (parts_of x) (flat_map parts_of xs) (h x) (all_inner parts_of h xs)

group_inner : (g : RelocGroup) → AreInner (group_parts g)
group_inner g = (tt, (tt, each_inner parts.Offset g.offsets tt))

symbol_inner : (s : SymbolEntry) → AreInner (symbol_parts s)
symbol_inner s = (tt, All-both _ (each parts.EntryName s.name) ((parts.EntryValue, s.value) ∷ []) (each_inner parts.EntryName s.name tt) (tt, tt))

body_inner : (word : ℕ) (body : BlockBody) → IsOfLoadMode word body → AreInner (body_parts body)
body_inner word (Name ws) h = (tt, each_inner parts.Payload ws tt)
body_inner word (Code top ws) h = (tt, each_inner parts.Payload ws tt)
body_inner word (Data top ws) h = (tt, each_inner parts.Payload ws tt)
body_inner word (Bss size) h = (tt, tt)
body_inner word (Reloc groups) h = All-both _ (flat_map group_parts groups) ((parts.GroupCount, 0) ∷ []) (all_inner group_parts group_inner groups) (tt, tt)
body_inner word (Ext entries) h = absurd h
body_inner word (Symbol entries) h = All-both _ (flat_map symbol_parts entries) ((parts.EntryWord, 0) ∷ []) (all_inner symbol_parts symbol_inner entries) (tt, tt)
body_inner word (Debug ws) h = (tt, each_inner parts.Payload ws tt)
body_inner word (Advisory ws) h = (tt, each_inner parts.Payload ws tt)
body_inner word End h = tt

abbrev label : Place → Part × ℕ → Role × ℕ
label place x = (InBlock place x.0, x.1)

labels_inner : (place : Place) (ps : List (Part × ℕ)) → AreInner ps → AllByRecursion (λ (l : Role × ℕ). IsInner l.0) (map (label place) ps)
labels_inner place [] h = tt
labels_inner place (p ∷ ps) h = (h.0, labels_inner place ps h.1)

-- ---- bodies by the kinds of their words

is_reloc : (k : Kind) (word : ℕ) (body : BlockBody) → kind word ≡ kinds.Reloc32 → FitsWord word body → (gs : List RelocGroup) × (body ≡ Reloc gs)
is_reloc k word (Name ws) e h = absurd (cc (e, h.0))
is_reloc k word (Code top ws) e h = absurd (cc (e, h.0))
is_reloc k word (Data top ws) e h = absurd (cc (e, h.0))
is_reloc k word (Bss size) e h = absurd (cc (e, h.0))
is_reloc k word (Reloc groups) e h = (groups, refl)
is_reloc k word (Ext entries) e h = absurd (cc (e, h.0))
is_reloc k word (Symbol entries) e h = absurd (cc (e, h.0))
is_reloc k word (Debug ws) e h = absurd (cc (e, h.0))
is_reloc k word (Advisory ws) e h = absurd (cc (subst (λ (x : Kind). IsTrue (is_unknown x)) e h.0))
is_reloc k word End e h = absurd (cc (e, h))

is_end : (word : ℕ) (body : BlockBody) → kind word ≡ kinds.End → FitsWord word body → body ≡ End
is_end word (Name ws) e h = absurd (cc (e, h.0))
is_end word (Code top ws) e h = absurd (cc (e, h.0))
is_end word (Data top ws) e h = absurd (cc (e, h.0))
is_end word (Bss size) e h = absurd (cc (e, h.0))
is_end word (Reloc groups) e h = absurd (cc (subst (λ (x : Kind). IsTrue (is_relocation x)) e h.0))
is_end word (Ext entries) e h = absurd (cc (e, h.0))
is_end word (Symbol entries) e h = absurd (cc (e, h.0))
is_end word (Debug ws) e h = absurd (cc (e, h.0))
is_end word (Advisory ws) e h = absurd (cc (subst (λ (x : Kind). IsTrue (is_unknown x)) e h.0))
is_end word End e h = refl

-- the kinds that have no content
no_relocation : (k : Kind) → IsContentKind k → IsTrue (is_relocation k) → ⊥
no_relocation kinds.Code c h = cc h
no_relocation kinds.Data c h = cc h
no_relocation kinds.Bss c h = cc h
no_relocation _ c h = c

not_unknown : (k : Kind) → IsContentKind k → IsTrue (is_unknown k) → ⊥
not_unknown kinds.Code c h = cc h
not_unknown kinds.Data c h = cc h
not_unknown kinds.Bss c h = cc h
not_unknown _ c h = c

pub is_content_block : (word : ℕ) (body : BlockBody) → IsContentKind (kind word) → FitsWord word body → standing body ≡ Content
is_content_block word (Name ws) c h = absurd (subst IsContentKind h.0 c)
is_content_block word (Code top ws) c h = refl
is_content_block word (Data top ws) c h = refl
is_content_block word (Bss size) c h = refl
is_content_block word (Reloc groups) c h = absurd (no_relocation (kind word) c h.0)
is_content_block word (Ext entries) c h = absurd (subst IsContentKind h.0 c)
is_content_block word (Symbol entries) c h = absurd (subst IsContentKind h.0 c)
is_content_block word (Debug ws) c h = absurd (subst IsContentKind h.0 c)
is_content_block word (Advisory ws) c h = absurd (not_unknown (kind word) c h.0)
is_content_block word End c h = absurd (subst IsContentKind h c)

kind_of_long : (x : ℕ) → x < 2 ^ 32 → kind (long_word x) ≡ kinds.Reloc32
unfolding kind
kind_of_long x h = let low : (flags x * 2 ^ 29 + 0x3EC) % 2 ^ 29 ≡ 0x3EC = omega arith in ap kind_of_number low

kind_of_end : kind end_word ≡ kinds.End
unfolding kind
kind_of_end = refl

pub cut : (ls ms : Labelled) (more : List ℕ) → bytes_of (words (ls ++ ms)) ++ more ≡ bytes_of (words ls) ++ (bytes_of (words ms) ++ more)
cut ls ms more =
    ap (λ (x : List ℕ). x ++ more) (ap bytes_of (words-append ls ms) ∙ bytes_of-append (words ls) (words ms)) ∙ append_assoc (bytes_of (words ls)) (bytes_of (words ms)) more

-- ---- a block

abbrev pub to : Position → Spot
to p = go_on (files.Load p)

-- where END is put in, and what is given out after it
pub record PutAt (q : Position) (more : List ℕ) : Type 0 where
  pub open_hunk : OpenHunk
  pub closes : close open_hunk ≡ q
  pub before : PutBefore open_hunk more

data BlockComes (b : BlockValue) (p q : Position) (input more : List ℕ) : Type 0 where
  Stands : (front : List ℕ) (s : SpellsBlock b front) → Comes (to p) (to q) input more front (short_of b front s) 0 → BlockComes b p q input more
  Missing : b ≡ end_block → PutAt q more → Comes (to p) (to q) input more [] 0 1 → BlockComes b p q input more

module _ (place : Place) (b : BlockValue) (o : OpenHunk) (phase : Phase) (q : Position) (input more : List ℕ) (is : IsHunkBlock place.hunks place.longs b) where
  abbrev here : Position
  here = positions.Body o phase

  abbrev body_labels : Labelled
  body_labels = map (label place) (body_parts b.body)

  abbrev behind_word : List ℕ
  behind_word = bytes_of (words body_labels) ++ more

  kept_comes : AreAccepted (block_labelled place b) → Along here (block_labelled place b) q
      → Comes (Long (files.Load here)) (to (step here b.word)) input behind_word (to_be_bytes w32 b.word) 0 0 → to here ≡ Long (files.Load here)
      → BlockComes b here q input more
  unfolding bytes_of
  kept_comes ok along c same =
      let later = inner_come (step here b.word) q body_labels c.back more (labels_inner place (body_parts b.body) (body_inner b.word b.body is.mode)) along.1 ok.1 c.gives in
      Stands (to_be_bytes w32 b.word ++ bytes_of (words body_labels)) (inl (ap bytes_of (words_in place (block_parts b))))
      (subst (λ (s : Spot). Comes s (to q) input more (to_be_bytes w32 b.word ++ bytes_of (words body_labels)) 0 0) (sym same)
      (two_come (Long (files.Load here)) (to (step here b.word)) (to q) input behind_word more (to_be_bytes w32 b.word) (bytes_of (words body_labels)) 0 0 0 0 c later))

  short_comes : (x : ℕ) → x < 2 ^ 32 → IsTrue (is_short (kind x)) → b.word ≡ long_word x → (standing b.body ≡ Relocating → NextWord more) → Along here (block_labelled place b) q
      → ((w : ℕ) → kind w ≡ kinds.Reloc32 → step here w ≡ at o phases.GroupCount)
      → Comes (Long (files.Load here)) (Half (after_short o) Count false) input behind_word (to_be_bytes w32 x) 1 0 → to here ≡ Long (files.Load here) → BlockComes b here q input more
  unfolding bytes_of
  short_comes x fits short long next along begins c same =
      let kind_is : kind b.word ≡ kinds.Reloc32 = ap kind long ∙ kind_of_long x fits in
      let r = is_reloc kinds.Reloc32 b.word b.body kind_is is.block.body in
      let gs : List RelocGroup = r.0 in
      let are_groups = groups_fit b.word b.body gs r.1 is.block.body in
      let numbers : words body_labels ≡ list_text group_text gs = words_in place (body_parts b.body) ∙ ap body_text r.1 ∙ body_text_is (Reloc gs) in
      let l = list_comes (after_short o) gs c.back more are_groups (next (ap standing r.1)) (c.gives ∙ ap (λ (ns : List ℕ). bytes_of ns ++ more) numbers) in
      let leads : at o phases.BlockWord ≡ q =
      sym (ap (λ (r : Position). run r (words body_labels)) (begins b.word kind_is) ∙ ap (run (at o phases.GroupCount)) numbers ∙ run_list o gs are_groups)
      ∙ along_run here q (block_labelled place b) along in
      let front : List ℕ = to_be_bytes w32 x ++ halves_of (filled (list_text group_text gs)) in
      let spelled : IsShort b front = record { word = x; fits = fits; short = short; long = long; groups = gs; body = r.1; halves = l.fit; text = refl } in
      Stands front (inr spelled)
      (subst (λ (s : Spot). Comes s (to q) input more front 1 0) (sym same)
      (comes_as (Long (files.Load here)) (Long (after_short o)) (to q) input more front front 1 0 (ap to leads) refl
      (two_come (Long (files.Load here)) (Half (after_short o) Count false) (Long (after_short o)) input behind_word more (to_be_bytes w32 x) (halves_of (filled (list_text group_text gs))) 1 0 0 0 c l.comes)))

  put_comes : b.word ≡ end_word → PutBefore o behind_word → Along here (block_labelled place b) q → step here end_word ≡ close o
      → Comes (Long (files.Load here)) (to (close o)) input behind_word [] 0 1 → to here ≡ Long (files.Load here) → BlockComes b here q input more
  unfolding bytes_of
  put_comes word before along closes c same =
      let body : b.body ≡ End = is_end b.word b.body (ap kind word ∙ kind_of_end) is.block.body in
      let nothing : behind_word ≡ more = ap (λ (x : BlockBody). bytes_of (words (map (label place) (body_parts x))) ++ more) body in
      let leads : step here b.word ≡ q = subst (λ (x : BlockBody). Along (step here b.word) (map (label place) (body_parts x)) q) body along.1 in
      let there : close o ≡ q = sym closes ∙ ap (step here) (sym word) ∙ leads in
      let is_end_block : b ≡ end_block = λ j. record { word = word j; body = body j } in
      Missing is_end_block (record { open_hunk = o; closes = there; before = subst (PutBefore o) nothing before })
      (subst (λ (s : Spot). Comes s (to q) input more [] 0 1) (sym same)
      (subst (λ (x : Position). Comes (Long (files.Load here)) (to x) input more [] 0 1) there
      (subst (λ (x : List ℕ). Comes (Long (files.Load here)) (to (close o)) input x [] 0 1) nothing c)))

  word_comes : AreAccepted (block_labelled place b) → (standing b.body ≡ Relocating → NextWord more) → Along here (block_labelled place b) q
      → ((w : ℕ) → kind w ≡ kinds.Reloc32 → step here w ≡ at o phases.GroupCount)
      → step here end_word ≡ close o → to here ≡ Long (files.Load here) → WordComes o phase b.word input behind_word → BlockComes b here q input more
  word_comes ok next along begins closes same (Kept c) = kept_comes ok along c same
  word_comes ok next along begins closes same (Short x fits short long c) = short_comes x fits short long next along begins c same
  word_comes ok next along begins closes same (Put word before c) = put_comes word before along closes c same

block_comes : (place : Place) (b : BlockValue) (p q : Position) (input more : List ℕ) → IsHunkBlock place.hunks place.longs b → AreAccepted (block_labelled place b)
    → (standing b.body ≡ Relocating → NextWord more)
    → AtBlock place.has_content p → Along p (block_labelled place b) q → IsBytes input → plain_from (to p) input ≡ bytes_of (words (block_labelled place b)) ++ more → BlockComes b p q input more
unfolding bytes_of kind
block_comes place b (positions.Body o phases.FirstBlock) q input more is ok next at_word along bytes e =
    word_comes place b o phases.FirstBlock q input more is ok next along (λ w k. word_begins o w k) refl refl
    (first_word_from o b.word (bytes_of (words (map (label place) (body_parts b.body))) ++ more) input ok.0.0 bytes e)
block_comes place b (positions.Body o phases.BlockWord) q input more is ok next at_word along bytes e =
    word_comes place b o phases.BlockWord q input more is ok next along (λ w k. word_begins o w k) refl refl
    (block_word_from o b.word (bytes_of (words (map (label place) (body_parts b.body))) ++ more) input ok.0.0 bytes e)
block_comes place b (positions.Body o _) q input more is ok next at_word along bytes e = absurd at_word
block_comes place b _ q input more is ok next at_word along bytes e = absurd at_word

-- ---- the blocks of a hunk

pub record BlocksCome (bs : List BlockValue) (p q : Position) (input more : List ℕ) : Type 0 where
  pub left_out : Bool
  pub front : List ℕ
  pub spells : SpellsBlocks left_out bs front
  pub comes : Comes (to p) (to q) input more front (short_in_blocks left_out bs front spells) (one_if left_out)
  pub put : left_out ≡ true → PutAt q more

no_more_blocks : (has : Bool) (s : BlockStanding) (more : List BlockStanding) → s ≡ Ending → AreInOrder has (s ∷ more) → more ≡ []
no_more_blocks true s more e o = subst (λ (x : BlockStanding). AreInOrder true (x ∷ more)) e o
no_more_blocks false s more e o = absurd (subst (λ (x : BlockStanding). AreInOrder false (x ∷ more)) e o)

not_last : (has : Bool) (s : BlockStanding) → s ≡ Relocating → AreInOrder has (s ∷ []) → ⊥
not_last true s e o = subst (λ (x : BlockStanding). AreInOrder true (x ∷ [])) e o
not_last false s e o = subst (λ (x : BlockStanding). AreInOrder false (x ∷ [])) e o

not_short_word : (place : Place) (w : ℕ) → refuse (InBlock place parts.BlockWord) w ≡ None → w ≡ 0x3FC → ⊥
not_short_word place w ok e =
    let none : Some reasons.ShortReloc ≡ None = sym (word_says place.has_content) ∙ ap (refuse (InBlock place parts.BlockWord)) (sym e) ∙ ok in
    cc none

module _ (hunks longs : ℕ) where
  abbrev pub place_of : Bool → Place
  place_of has = record { hunks = hunks; longs = longs; has_content = has }

  abbrev labels : Bool → List BlockValue → Labelled
  labels has bs = blocks_labelled hunks longs has bs

  abbrev behind : Bool → BlockValue → Bool
  behind has b = has || is_content (standing b.body)

  next_word : (has : Bool) (b : BlockValue) (bs : List BlockValue) (more : List ℕ) → AreAccepted (labels has (b ∷ bs)) → NextWord (bytes_of (words (labels has (b ∷ bs))) ++ more)
  unfolding bytes_of
  next_word has b bs more ok = record {
    word = b.word;
    back = bytes_of (words (map (label (place_of has)) (body_parts b.body) ++ labels (behind has b) bs)) ++ more;
    split = refl;
    fits = ok.0.0;
    other = not_short_word (place_of has) b.word ok.0.1;
  }

  last_come : (b : BlockValue) (p r q : Position) (input more : List ℕ) → r ≡ q → BlockComes b p r input more → BlocksCome (b ∷ []) p q input more
  last_come b p r q input more same (Stands front s c) = record {
    left_out = false;
    front = front ++ [];
    spells = (front, [], refl, s, refl);
    comes = two_come (to p) (to r) (to q) input more more front [] (short_of b front s) 0 0 0 c (none_comes (to r) (to q) c.back more (ap to same) c.gives);
    put = λ e. absurd (cc e);
  }
  last_come b p r q input more same (Missing e put c) = record {
    left_out = true;
    front = [];
    spells = (e, refl);
    comes = two_come (to p) (to r) (to q) input more more [] [] 0 0 1 0 c (none_comes (to r) (to q) c.back more (ap to same) c.gives);
    put = λ f. subst (λ (x : Position). PutAt x more) same put;
  }

  join_blocks : (b d : BlockValue) (bs : List BlockValue) (p r q : Position) (input mid more front : List ℕ) (s : SpellsBlock b front) (c : Comes (to p) (to r) input mid front (short_of b front s) 0)
      → (left_out : Bool) (back : List ℕ) (spells : SpellsBlocks left_out (d ∷ bs) back) → Comes (to r) (to q) c.back more back (short_in_blocks left_out (d ∷ bs) back spells) (one_if left_out)
      → (left_out ≡ true → PutAt q more) → BlocksCome (b ∷ d ∷ bs) p q input more
  join_blocks b d bs p r q input mid more front s c false back spells later put = record {
    left_out = false;
    front = front ++ back;
    spells = (front, back, refl, s, spells);
    comes = two_come (to p) (to r) (to q) input mid more front back (short_of b front s) _ 0 0 c later;
    put = put;
  }
  join_blocks b d bs p r q input mid more front s c true back spells later put = record {
    left_out = true;
    front = front ++ back;
    spells = (front, back, refl, s, spells);
    comes = two_come (to p) (to r) (to q) input mid more front back (short_of b front s) _ 0 1 c later;
    put = put;
  }

  first_come : (b d : BlockValue) (bs : List BlockValue) (has : Bool) (p r q : Position) (input more : List ℕ) → AreInOrder has (map (λ (x : BlockValue). standing x.body) (b ∷ d ∷ bs)) → IsBytes input
      → BlockComes b p r input (bytes_of (words (labels (behind has b) (d ∷ bs))) ++ more)
      → ((back : List ℕ) → IsBytes back → plain_from (to r) back ≡ bytes_of (words (labels (behind has b) (d ∷ bs))) ++ more → BlocksCome (d ∷ bs) r q back more)
      → BlocksCome (b ∷ d ∷ bs) p q input more
  first_come b d bs has p r q input more o bytes (Stands front s c) rest_come =
      let later = rest_come c.back (back_bytes (to p) (to r) input _ front _ _ c bytes) c.gives in
      join_blocks b d bs p r q input (bytes_of (words (labels (behind has b) (d ∷ bs))) ++ more) more front s c later.left_out later.front later.spells later.comes later.put
  first_come b d bs has p r q input more o bytes (Missing is_end put c) rest_come =
      absurd (cc (no_more_blocks has (standing b.body) (standing d.body ∷ map (λ (x : BlockValue). standing x.body) bs) (ap (λ (x : BlockValue). standing x.body) is_end) o))

  pub blocks_come : (has : Bool) (bs : List BlockValue) (p q : Position) (input more : List ℕ) → AllByRecursion (IsHunkBlock hunks longs) bs → AreAccepted (labels has bs) → Along p (labels has bs) q
      → AreInOrder has (map (λ (b : BlockValue). standing b.body) bs) → IsBytes input → plain_from (to p) input ≡ bytes_of (words (labels has bs)) ++ more → BlocksCome bs p q input more
  unfolding bytes_of
  blocks_come has [] p q input more is ok along o bytes e = absurd o
  blocks_come has (b ∷ []) p q input more is ok along o bytes e =
      let k = along_split p q (block_labelled (place_of has) b) [] along in
      last_come b p k.0 q input more k.2
      (block_comes (place_of has) b p k.0 input more is.0 (All-left _ (block_labelled (place_of has) b) [] ok) (λ r. absurd (not_last has (standing b.body) r o))
      (at_block p (place_of has) along.0) k.1 bytes (e ∙ cut (block_labelled (place_of has) b) [] more))
  blocks_come has (b ∷ d ∷ bs) p q input more is ok along o bytes e =
      let rest : Labelled = labels (behind has b) (d ∷ bs) in
      let k = along_split p q (block_labelled (place_of has) b) rest along in
      let ok_rest = All-right _ (block_labelled (place_of has) b) rest ok in
      first_come b d bs has p k.0 q input more o bytes
      (block_comes (place_of has) b p k.0 input (bytes_of (words rest) ++ more) is.0 (All-left _ (block_labelled (place_of has) b) rest ok) (λ r. next_word (behind has b) d bs more ok_rest)
      (at_block p (place_of has) along.0) k.1 bytes (e ∙ cut (block_labelled (place_of has) b) rest more))
      (λ back back_bytes gives. blocks_come (behind has b) (d ∷ bs) k.0 q back more is.1 ok_rest k.2 (order_next hunks longs (standing b.body) (standing d.body) has (map (λ (x : BlockValue). standing x.body) bs) o) back_bytes gives)
