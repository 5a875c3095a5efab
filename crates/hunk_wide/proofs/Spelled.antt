-- A wide spelling of a load file is given out as its plain text.
use Rattle.std.proofs.Common.{◌≡◌, ℕ, zero, suc, ◌^◌, ◌<◌, Bool, true, false, ◌||◌, ◌&&◌, cond, eqb, List, [], ◌∷◌, ◌++◌, length, map, refl, sym, ap, ap₂, subst, ◌∙◌, append_assoc, inl, inr, arith}
use Rattle.std.proofs.lemmas.Bool.{lt-ltb}
use Rattle.std.specs.{Int.{to_be_bytes, w32}, List.{flat_map, AllByRecursion}}
use Rattle.hunk_words.specs.declared.block_word.Kind.{Kind}
use Rattle.hunk_words.specs.declared.block_word.Kind.TheVariants as kinds
use Rattle.hunk_words.specs.{Bits.{end_word, has_both_bits, kind}, Longs.{bytes_of, longs}}
use Rattle.hunk_words.proofs.LongLaws.{bytes_of-append, longs-bytes_of}
use Rattle.hunk_blocks.specs.Faults.{words}
use Rattle.hunk_blocks.specs.{Parts.{block_parts, body_parts, longs_of}, Values.{BlockValue, BlockBody, Code, Data, Bss, IsBlock, FitsWord}}
use Rattle.hunk_blocks.proofs.{FaultLaws.words-append, Fronts.{All-left, All-right}}
use Rattle.hunk_grammar.specs.declared.phase.Phase.{Phase}
use Rattle.hunk_grammar.specs.declared.phase.Phase.TheVariants as phases
use Rattle.hunk_grammar.specs.declared.position.OpenHunk.{OpenHunk}
use Rattle.hunk_grammar.specs.declared.position.Position.{Position}
use Rattle.hunk_grammar.specs.declared.position.Position.TheVariants as positions
use Rattle.hunk_wide.specs.declared.position.FilePosition.TheVariants as files
use Rattle.hunk_grammar.specs.Positions.{close, open_next, step}
use Rattle.hunk_grammar.specs.BlockParts.{Part, Part as parts}
use Rattle.hunk_grammar.specs.Roles.{Place, InBlock}
use Rattle.hunk_grammar.specs.Standings.{BlockStanding, Beside, Content, Relocating, Ending, is_content}
use Rattle.hunk_files.specs.LoadFile.{HunkValue, LoadFileValue, standing, AreInOrder, IsHunkBlock, IsHunk, IsLoadFile, declared_longs}
use Rattle.hunk_files.specs.LoadText.{block_labelled, blocks_labelled, header_labelled, hunk_labelled, labelled, table, text}
use Rattle.hunk_files.specs.WordsRead.{AreAccepted, Labelled}
use Rattle.hunk_files.proofs.walk.{Accepted.labelled_accepted, Machines.load_along, Scan.{one_front, text_fits}}
use Rattle.hunk_wide.specs.declared.spot.Spot.{Spot}
use Rattle.hunk_wide.specs.declared.spot.Spot.TheVariants.{Long}
use Rattle.hunk_wide.specs.declared.spot.Given.{Given}
use Rattle.hunk_wide.specs.declared.spot.Given.TheVariants.{Same, BehindEnd}
use Rattle.hunk_wide.specs.Longwords.{behind_block, behind_load, given, given_block, given_kind, go_on, out_long}
use Rattle.hunk_wide.specs.Plain.{plain, plain_from}
use Rattle.hunk_wide.specs.Wide.{BeginsWithContent, IsWide, MayLeaveOut, SpellsBlock, SpellsBlocks, SpellsHunks, end_block}
use Rattle.hunk_wide.proofs.{Along.along_plain, Short.{false_is, short_goes}, Steps.{Along, AtBlock, along_run, along_split, at_block, run}, Cells.long_cells}

-- ---- stretches of the text

-- From this position the bytes are given out as these longwords, which lead to that one.
abbrev Goes : Position → Labelled → Position → List ℕ → List ℕ → Type 0
Goes p ls q bytes more = plain_from (go_on (files.Load p)) (bytes ++ more) ≡ bytes_of (words ls) ++ plain_from (go_on (files.Load q)) more

two_go : (p q r : Position) (ls ms : Labelled) (front back more : List ℕ) → Goes p ls q front (back ++ more) → Goes q ms r back more → Goes p (ls ++ ms) r (front ++ back) more
two_go p q r ls ms front back more first second =
    ap (plain_from (go_on (files.Load p))) (append_assoc front back more)
    ∙ first ∙ ap (λ (x : List ℕ). bytes_of (words ls) ++ x) second
    ∙ sym (append_assoc (bytes_of (words ls)) (bytes_of (words ms)) (plain_from (go_on (files.Load r)) more))
    ∙ ap (λ (x : List ℕ). x ++ plain_from (go_on (files.Load r)) more) (sym (ap bytes_of (words-append ls ms) ∙ bytes_of-append (words ls) (words ms)))

-- ---- blocks

pub words_in : (place : Place) (ps : List (Part × ℕ)) → words (map (λ (x : Part × ℕ). (InBlock place x.0, x.1)) ps) ≡ longs_of ps
words_in place [] = refl
words_in place (p ∷ ps) = ap (λ (ws : List ℕ). p.1 ∷ ws) (words_in place ps)

block_goes : (place : Place) (b : BlockValue) (p q : Position) (bytes more : List ℕ) → IsHunkBlock place.hunks place.longs b → AreAccepted (block_labelled place b)
    → Along p (block_labelled place b) q → SpellsBlock b bytes → Goes p (block_labelled place b) q bytes more
block_goes place b p q bytes more is ok along (inl e) =
    ap (λ (x : List ℕ). plain_from (go_on (files.Load p)) (x ++ more)) (e ∙ ap bytes_of (sym (words_in place (block_parts b))))
    ∙ along_plain p q (block_labelled place b) more along ok
block_goes place b p q bytes more is ok along (inr s) =
    short_goes place.has_content p b bytes more (at_block p place along.0) is.block is.mode s
    ∙ ap₂ (λ (ws : List ℕ) (r : Position). bytes_of ws ++ plain_from (go_on (files.Load r)) more) (sym (words_in place (block_parts b)))
    (ap (run p) (sym (words_in place (block_parts b))) ∙ along_run p q (block_labelled place b) along)

module _ (hunks longs : ℕ) where
  abbrev place_of : Bool → Place
  place_of has = record { hunks = hunks; longs = longs; has_content = has }

  abbrev labels : Bool → List BlockValue → Labelled
  labels has bs = blocks_labelled hunks longs has bs

  abbrev behind : Bool → BlockValue → Bool
  behind has b = has || is_content (standing b.body)

  -- with no END left out
  blocks_go : (has : Bool) (bs : List BlockValue) (p q : Position) (bytes more : List ℕ) → AllByRecursion (IsHunkBlock hunks longs) bs → AreAccepted (labels has bs)
      → Along p (labels has bs) q → SpellsBlocks false bs bytes → Goes p (labels has bs) q bytes more
  unfolding bytes_of
  blocks_go has [] p q bytes more is ok along e =
      ap₂ (λ (x : Position) (bs : List ℕ). plain_from (go_on (files.Load x)) (bs ++ more)) along e
  blocks_go has (b ∷ bs) p q bytes more is ok along s =
      let k = along_split p q (block_labelled (place_of has) b) (labels (behind has b) bs) along in
      ap (λ (x : List ℕ). plain_from (go_on (files.Load p)) (x ++ more)) s.2
      ∙ two_go p k.0 q (block_labelled (place_of has) b) (labels (behind has b) bs) s.0 s.1 more
      (block_goes (place_of has) b p k.0 s.0 (s.1 ++ more) is.0 (All-left _ (block_labelled (place_of has) b) (labels (behind has b) bs) ok) k.1 s.3)
      (blocks_go (behind has b) bs k.0 q s.1 more is.1 (All-right _ (block_labelled (place_of has) b) (labels (behind has b) bs) ok) k.2 s.4)

  -- with END left out: what comes before it, and where that leads
  record LeavesEnd (has : Bool) (bs : List BlockValue) (p q : Position) (bytes more : List ℕ) : Type 0 where
    pub front : Labelled
    pub end_at : Position
    pub place : Place
    pub split : labels has bs ≡ front ++ (InBlock place parts.BlockWord, end_word) ∷ []
    pub goes : Goes p front end_at bytes more
    pub at_end : AtBlock true end_at
    pub closes : step end_at end_word ≡ q

  pub order_next : (s t : BlockStanding) (has : Bool) (rest : List BlockStanding) → AreInOrder has (s ∷ t ∷ rest) → AreInOrder (has || is_content s) (t ∷ rest)
  order_next Beside t true rest o = o
  order_next Beside t false rest o = o
  order_next Content t true rest o = absurd o
  order_next Content t false rest o = o
  order_next Relocating t true rest o = o
  order_next Relocating t false rest o = absurd o
  order_next Ending t true rest o = absurd cc
  order_next Ending t false rest o = absurd o

  last_end : (has : Bool) (p q : Position) (bytes more : List ℕ) → Along p (labels has (end_block ∷ [])) q → AreInOrder has (Ending ∷ []) → bytes ≡ [] → LeavesEnd has (end_block ∷ []) p q bytes more
  unfolding bytes_of
  last_end false p q bytes more along o e = absurd o
  last_end true p q bytes more along o e = record {
    front = [];
    end_at = p;
    place = place_of true;
    split = refl;
    goes = ap (λ (x : List ℕ). plain_from (go_on (files.Load p)) (x ++ more)) e;
    at_end = at_block p (place_of true) along.0;
    closes = along.1;
  }

  blocks_leave : (has : Bool) (bs : List BlockValue) (p q : Position) (bytes more : List ℕ) → AllByRecursion (IsHunkBlock hunks longs) bs → AreAccepted (labels has bs)
      → Along p (labels has bs) q → AreInOrder has (map (λ (b : BlockValue). standing b.body) bs) → SpellsBlocks true bs bytes → LeavesEnd has bs p q bytes more
  blocks_leave has [] p q bytes more is ok along o s = absurd o
  blocks_leave has (b ∷ []) p q bytes more is ok along o s =
      subst (λ (x : BlockValue). Along p (labels has (x ∷ [])) q → AreInOrder has (standing x.body ∷ []) → LeavesEnd has (x ∷ []) p q bytes more) (sym s.0)
      (λ a k. last_end has p q bytes more a k s.1) along o
  blocks_leave has (b ∷ c ∷ bs) p q bytes more is ok along o s =
      let rest : Labelled = labels (behind has b) (c ∷ bs) in
      let k = along_split p q (block_labelled (place_of has) b) rest along in
      let later = blocks_leave (behind has b) (c ∷ bs) k.0 q s.1 more is.1 (All-right _ (block_labelled (place_of has) b) rest ok) k.2
      (order_next (standing b.body) (standing c.body) has (map (λ (d : BlockValue). standing d.body) bs) o) s.4 in
      record {
        front = block_labelled (place_of has) b ++ later.front;
        end_at = later.end_at;
        place = later.place;
        split = ap (λ (ls : Labelled). block_labelled (place_of has) b ++ ls) later.split ∙ sym (append_assoc (block_labelled (place_of has) b) later.front _);
        goes =
            ap (λ (x : List ℕ). plain_from (go_on (files.Load p)) (x ++ more)) s.2
            ∙ two_go p k.0 later.end_at (block_labelled (place_of has) b) later.front s.0 s.1 more
            (block_goes (place_of has) b p k.0 s.0 (s.1 ++ more) is.0 (All-left _ (block_labelled (place_of has) b) rest ok) k.1 s.3)
            later.goes;
        at_end = later.at_end;
        closes = later.closes;
      }

-- ---- END put back

done_is : (hunks ahead : ℕ) → open_next hunks ahead ≡ positions.Done → ahead ≡ 0
done_is hunks zero e = refl
done_is hunks (suc ahead) e = absurd cc

end_says : (has : Bool) (ahead : ℕ) → has ≡ true → ahead ≡ 0 → cond (has && eqb ahead 0) (to_be_bytes w32 end_word) [] ≡ to_be_bytes w32 end_word
end_says has ahead h e = rw (h, e) refl

-- The END of the last hunk, at the end of the input.
end_of_input : (p : Position) → AtBlock true p → step p end_word ≡ positions.Done → plain_from (go_on (files.Load p)) [] ≡ to_be_bytes w32 end_word
unfolding plain_from kind
end_of_input (positions.Body o phases.FirstBlock) at e = end_says o.has_content o.ahead at (done_is o.hunks o.ahead e)
end_of_input (positions.Body o phases.BlockWord) at e = end_says o.has_content o.ahead at (done_is o.hunks o.ahead e)
end_of_input (positions.Body o _) at e = absurd at
end_of_input _ at e = absurd at

-- the kinds of content blocks
abbrev pub IsContentKind : Kind → Type 0
IsContentKind kinds.Code = Unit {0}
IsContentKind kinds.Data = Unit {0}
IsContentKind kinds.Bss = Unit {0}
IsContentKind _ = ⊥

kind_behind : (o : OpenHunk) (k : Kind) (ahead : ℕ) → o.has_content ≡ true → o.ahead ≡ suc ahead → IsContentKind k → given_kind o k ≡ BehindEnd
kind_behind o kinds.Code ahead h e c = rw (h, e) (ap (λ (b : Bool). cond b BehindEnd Same) (lt-ltb 0 (suc ahead) (omega arith)))
kind_behind o kinds.Data ahead h e c = rw (h, e) (ap (λ (b : Bool). cond b BehindEnd Same) (lt-ltb 0 (suc ahead) (omega arith)))
kind_behind o kinds.Bss ahead h e c = rw (h, e) (ap (λ (b : Bool). cond b BehindEnd Same) (lt-ltb 0 (suc ahead) (omega arith)))
kind_behind o _ ahead h e c = absurd c

pub word_behind : (o : OpenHunk) (w ahead : ℕ) → o.has_content ≡ true → o.ahead ≡ suc ahead → has_both_bits w ≡ false → IsContentKind (kind w) → given_block o w ≡ BehindEnd
word_behind o w ahead h e bits c = rw bits (kind_behind o (kind w) ahead h e c)

kind_first : (o : OpenHunk) (k : Kind) → o.has_content ≡ false → IsContentKind k → given_kind o k ≡ Same
kind_first o kinds.Code h c = rw h refl
kind_first o kinds.Data h c = rw h refl
kind_first o kinds.Bss h c = rw h refl
kind_first o _ h c = absurd c

pub word_first : (o : OpenHunk) (w : ℕ) → o.has_content ≡ false → has_both_bits w ≡ false → IsContentKind (kind w) → given_block o w ≡ Same
word_first o w h bits c = rw bits (kind_first o (kind w) h c)

-- the next hunk, which opens
abbrev pub first : OpenHunk → ℕ → OpenHunk
first o ahead = record { hunks = o.hunks; ahead = ahead; has_content = false }

-- Some hunk comes after this one.
pub some_ahead : (hunks ahead : ℕ) → AtBlock false (open_next hunks ahead) → (k : ℕ) × (ahead ≡ suc k)
some_ahead hunks zero h = absurd h
some_ahead hunks (suc k) h = (k, refl)

module _ (o : OpenHunk) (w : ℕ) (more : List ℕ) (fits : w < 2 ^ 32) (bits : has_both_bits w ≡ false) (content : IsContentKind (kind w)) (has : o.has_content ≡ true) (some : (k : ℕ) × (o.ahead ≡ suc k)) where
  opens : close o ≡ positions.Body (first o some.0) phases.FirstBlock
  opens = ap (open_next o.hunks) some.1

  next_goes : plain_from (go_on (files.Load (close o))) (to_be_bytes w32 w ++ more) ≡ to_be_bytes w32 w ++ plain_from (go_on (files.Load (step (close o) w))) more
  next_goes =
      ap (λ (x : Position). plain_from (go_on (files.Load x)) (to_be_bytes w32 w ++ more)) opens
      ∙ long_cells (files.Load (positions.Body (first o some.0) phases.FirstBlock)) w more fits
      ∙ ap (λ (g : Given). out_long g (to_be_bytes w32 w) w ++ plain_from (behind_block g (first o some.0) phases.FirstBlock w) more) (word_first (first o some.0) w refl bits content)
      ∙ ap (λ (x : Position). to_be_bytes w32 w ++ plain_from (go_on (files.Load (step x w))) more) (sym opens)

  -- from a block word of the hunk
  ends_before : (phase : Phase) (p : Position) → given (files.Load p) w ≡ given_block o w → behind_load p w ≡ behind_block (given_block o w) o phase w →
      plain_from (Long (files.Load p)) (to_be_bytes w32 w ++ more) ≡ to_be_bytes w32 end_word ++ plain_from (go_on (files.Load (close o))) (to_be_bytes w32 w ++ more)
  ends_before phase p g b =
      let e = word_behind o w some.0 has some.1 bits content in
      long_cells (files.Load p) w more fits
      ∙ ap₂ (λ (x : Given) (s : Spot). out_long x (to_be_bytes w32 w) w ++ plain_from s more) (g ∙ e) (b ∙ ap (λ (x : Given). behind_block x o phase w) e)
      ∙ ap (λ (x : List ℕ). to_be_bytes w32 end_word ++ x) (sym next_goes)

-- The END of a hunk before the content of the next.
end_before : (p q : Position) (w : ℕ) (more : List ℕ) → w < 2 ^ 32 → has_both_bits w ≡ false → IsContentKind (kind w) → AtBlock true p → step p end_word ≡ q → AtBlock false q →
    plain_from (go_on (files.Load p)) (to_be_bytes w32 w ++ more) ≡ to_be_bytes w32 end_word ++ plain_from (go_on (files.Load q)) (to_be_bytes w32 w ++ more)
unfolding kind
end_before (positions.Body o phases.FirstBlock) q w more fits bits is at e next =
    ends_before o w more fits bits is at (some_ahead o.hunks o.ahead (subst (AtBlock false) (sym e) next)) phases.FirstBlock (positions.Body o phases.FirstBlock) refl refl
    ∙ ap (λ (x : Position). to_be_bytes w32 end_word ++ plain_from (go_on (files.Load x)) (to_be_bytes w32 w ++ more)) e
end_before (positions.Body o phases.BlockWord) q w more fits bits is at e next =
    ends_before o w more fits bits is at (some_ahead o.hunks o.ahead (subst (AtBlock false) (sym e) next)) phases.BlockWord (positions.Body o phases.BlockWord) refl refl
    ∙ ap (λ (x : Position). to_be_bytes w32 end_word ++ plain_from (go_on (files.Load x)) (to_be_bytes w32 w ++ more)) e
end_before (positions.Body o _) q w more fits bits is at e next = absurd at
end_before _ q w more fits bits is at e next = absurd at

-- ---- hunks

-- The bytes begin with the word of a content block.
pub record BeginsSo (bytes : List ℕ) : Type 0 where
  pub word : ℕ
  pub back : List ℕ
  pub split : bytes ≡ to_be_bytes w32 word ++ back
  pub fits : word < 2 ^ 32
  pub bits : has_both_bits word ≡ false
  pub content : IsContentKind (kind word)

content_kind : (word : ℕ) (body : BlockBody) → FitsWord word body → standing body ≡ Content → IsContentKind (kind word)
content_kind word (Code top ws) h e = subst IsContentKind (sym h.0) tt
content_kind word (Data top ws) h e = subst IsContentKind (sym h.0) tt
content_kind word (Bss size) h e = subst IsContentKind (sym h.0) tt
content_kind word _ h e = absurd cc

begins_block : (b : BlockValue) (bytes : List ℕ) → IsBlock b → standing b.body ≡ Content → SpellsBlock b bytes → BeginsSo bytes
unfolding bytes_of
begins_block b bytes is e (inl s) = record {
  word = b.word;
  back = bytes_of (longs_of (body_parts b.body));
  split = s;
  fits = is.word;
  bits = false_is (has_both_bits b.word) is.bits;
  content = content_kind b.word b.body is.body e;
}
begins_block b bytes is e (inr s) =
    let other : standing b.body ≡ Relocating = ap standing s.body in
    absurd (cc (other, e))

pub begins_more : (bytes front back : List ℕ) → bytes ≡ front ++ back → BeginsSo front → BeginsSo bytes
begins_more bytes front back e b = record {
  word = b.word;
  back = b.back ++ back;
  split = e ∙ ap (λ (x : List ℕ). x ++ back) b.split;
  fits = b.fits;
  bits = b.bits;
  content = b.content;
}

pub begins_blocks : (hunks longs : ℕ) (left_out : Bool) (bs : List BlockValue) (bytes : List ℕ) → AllByRecursion (IsHunkBlock hunks longs) bs → BeginsWithContent bs → SpellsBlocks left_out bs bytes → BeginsSo bytes
begins_blocks hunks longs left_out [] bytes is c s = absurd c
begins_blocks hunks longs false (b ∷ bs) bytes is c s = begins_more bytes s.0 s.1 s.2 (begins_block b s.0 is.0.block c s.3)
begins_blocks hunks longs true (b ∷ []) bytes is c s =
    let other : standing b.body ≡ Ending = ap (λ (x : BlockValue). standing x.body) s.0 in
    absurd (cc (other, c))
begins_blocks hunks longs true (b ∷ d ∷ bs) bytes is c s = begins_more bytes s.0 s.1 s.2 (begins_block b s.0 is.0.block c s.3)

pub first_at : (hunks : ℕ) (q r : Position) (h : HunkValue) (ls : Labelled) → BeginsWithContent h.blocks → Along q (hunk_labelled hunks h ++ ls) r → AtBlock false q
first_at hunks q r h ls c along = go h.blocks c along
  where
    go : (bs : List BlockValue) → BeginsWithContent bs → Along q (blocks_labelled hunks (declared_longs h) false bs ++ ls) r → AtBlock false q
    go [] c along = absurd c
    go (b ∷ bs) c along = at_block q (record { hunks = hunks; longs = declared_longs h; has_content = false }) along.0

module _ (hunks : ℕ) (at_end : Bool) (rest : List ℕ) (ends : at_end ≡ true → rest ≡ []) where
  abbrev all : List HunkValue → Labelled
  all hs = flat_map (hunk_labelled hunks) hs

  abbrev Whole : Position → Labelled → List ℕ → Type 0
  Whole p ls bytes = plain_from (go_on (files.Load p)) (bytes ++ rest) ≡ bytes_of (words ls) ++ rest

  -- after a hunk whose END is left out
  end_back : (hs : List HunkValue) (p q : Position) (bytes : List ℕ) → AllByRecursion (IsHunk hunks) hs → Along q (all hs) positions.Done → AtBlock true p → step p end_word ≡ q
      → MayLeaveOut at_end hs → SpellsHunks at_end hs bytes → plain_from (go_on (files.Load p)) (bytes ++ rest) ≡ to_be_bytes w32 end_word ++ plain_from (go_on (files.Load q)) (bytes ++ rest)
  unfolding plain_from
  end_back [] p q bytes is along at e may s =
      let none : bytes ++ rest ≡ [] = ap₂ (λ (x y : List ℕ). x ++ y) s (ends may) in
      ap (plain_from (go_on (files.Load p))) none ∙ end_of_input p at (e ∙ along)
      ∙ ap₂ (λ (x : Position) (bs : List ℕ). to_be_bytes w32 end_word ++ plain_from (go_on (files.Load x)) bs) (sym along) (sym none)
  end_back (h ∷ hs) p q bytes is along at e may s =
      let b = begins_more bytes s.1 s.2 s.3 (begins_blocks hunks (declared_longs h) s.0 h.blocks s.1 is.0.blocks may s.4) in
      let cut : bytes ++ rest ≡ to_be_bytes w32 b.word ++ (b.back ++ rest) = ap (λ (x : List ℕ). x ++ rest) b.split in
      ap (plain_from (go_on (files.Load p))) cut
      ∙ end_before p q b.word (b.back ++ rest) b.fits b.bits b.content at e (first_at hunks q positions.Done h (all hs) may along)
      ∙ ap (λ (x : List ℕ). to_be_bytes w32 end_word ++ plain_from (go_on (files.Load q)) x) (sym cut)

  hunks_go : (hs : List HunkValue) (p : Position) (bytes : List ℕ) → AllByRecursion (IsHunk hunks) hs → AreAccepted (all hs) → Along p (all hs) positions.Done → SpellsHunks at_end hs bytes → Whole p (all hs) bytes
  unfolding plain_from bytes_of
  hunks_go [] p bytes is ok along s = ap₂ (λ (x : Position) (bs : List ℕ). plain_from (go_on (files.Load x)) (bs ++ rest)) along s
  hunks_go (h ∷ hs) p bytes is ok along s =
      let k = along_split p positions.Done (hunk_labelled hunks h) (all hs) along in
      let fine = All-left _ (hunk_labelled hunks h) (all hs) ok in
      let later = hunks_go hs k.0 s.2 is.1 (All-right _ (hunk_labelled hunks h) (all hs) ok) k.2 s.6 in
      let split : bytes ++ rest ≡ s.1 ++ (s.2 ++ rest) = ap (λ (x : List ℕ). x ++ rest) s.3 ∙ append_assoc s.1 s.2 rest in
      ap (plain_from (go_on (files.Load p))) split ∙ go s.0 h hs p k.0 s.1 s.2 is fine k.1 k.2 s.4 s.5 s.6 later
    where
      join : (ls ms : Labelled) → bytes_of (words ls) ++ (bytes_of (words ms) ++ rest) ≡ bytes_of (words (ls ++ ms)) ++ rest
      join ls ms =
          sym (append_assoc (bytes_of (words ls)) (bytes_of (words ms)) rest)
          ∙ ap (λ (x : List ℕ). x ++ rest) (sym (ap bytes_of (words-append ls ms) ∙ bytes_of-append (words ls) (words ms)))

      go : (left_out : Bool) (h : HunkValue) (hs : List HunkValue) (p q : Position) (front back : List ℕ) → AllByRecursion (IsHunk hunks) (h ∷ hs) → AreAccepted (hunk_labelled hunks h)
          → Along p (hunk_labelled hunks h) q → Along q (all hs) positions.Done → SpellsBlocks left_out h.blocks front → (left_out ≡ true → MayLeaveOut at_end hs) → SpellsHunks at_end hs back → Whole q (all hs) back
          → plain_from (go_on (files.Load p)) (front ++ (back ++ rest)) ≡ bytes_of (words (all (h ∷ hs))) ++ rest
      go false h hs p q front back is ok along next s may t later =
          blocks_go hunks (declared_longs h) false h.blocks p q front (back ++ rest) is.0.blocks ok along s
          ∙ ap (λ (x : List ℕ). bytes_of (words (hunk_labelled hunks h)) ++ x) later
          ∙ join (hunk_labelled hunks h) (all hs)
      go true h hs p q front back is ok along next s may t later =
          let l = blocks_leave hunks (declared_longs h) false h.blocks p q front (back ++ rest) is.0.blocks ok along is.0.order s in
          l.goes
          ∙ ap (λ (x : List ℕ). bytes_of (words l.front) ++ x) (end_back hs l.end_at q back is.1 next l.at_end l.closes (may refl) t ∙ ap (λ (x : List ℕ). to_be_bytes w32 end_word ++ x) later)
          ∙ sym (append_assoc (bytes_of (words l.front)) (to_be_bytes w32 end_word) (bytes_of (words (all hs)) ++ rest))
          ∙ ap (λ (x : List ℕ). x ++ (bytes_of (words (all hs)) ++ rest)) (sym (ap bytes_of (words-append l.front ((InBlock l.place parts.BlockWord, end_word) ∷ [])) ∙ bytes_of-append (words l.front) (end_word ∷ [])))
          ∙ ap (λ (ls : Labelled). bytes_of (words ls) ++ (bytes_of (words (all hs)) ++ rest)) (sym l.split)
          ∙ join (hunk_labelled hunks h) (all hs)

-- ---- the file

-- Each wide spelling of a load file, and what follows it, is read as the plain text and that.
pub wide_plain : (at_end : Bool) (v : LoadFileValue) (bytes rest : List ℕ) → IsLoadFile v → IsWide at_end v bytes → (at_end ≡ true → rest ≡ []) → plain (bytes ++ rest) ≡ bytes_of (text v) ++ rest
unfolding labelled
wide_plain at_end v bytes rest is s ends =
    let header : Labelled = header_labelled (table v) in
    let hunks : Labelled = flat_map (hunk_labelled (length v)) v in
    let k = along_split positions.FirstLong positions.Done header hunks (load_along v is) in
    let ok = labelled_accepted v is in
    ap (λ (x : List ℕ). plain (x ++ rest)) s.text
    ∙ ap plain (append_assoc (bytes_of (words header)) s.hunks rest)
    ∙ along_plain positions.FirstLong k.0 header (s.hunks ++ rest) k.1 (All-left _ header hunks ok)
    ∙ ap (λ (x : List ℕ). bytes_of (words header) ++ x) (hunks_go (length v) at_end rest ends v k.0 s.hunks is.each (All-right _ header hunks ok) k.2 s.spells)
    ∙ sym (append_assoc (bytes_of (words header)) (bytes_of (words hunks)) rest)
    ∙ ap (λ (x : List ℕ). x ++ rest) (sym (ap bytes_of (words-append header hunks) ∙ bytes_of-append (words header) (words hunks)))

-- ---- one spelling has one value

text_longs : (v : LoadFileValue) (rest : List ℕ) → IsLoadFile v → longs (bytes_of (text v) ++ rest) ≡ text v ++ longs rest
text_longs v rest is = longs-bytes_of (text v) rest (text_fits (labelled v) (labelled_accepted v is))

-- One input has one value, however it is cut.
pub one_spelling : (x y : Bool) (a b : LoadFileValue) (front front2 rest rest2 : List ℕ) → IsLoadFile a → IsLoadFile b → IsWide x a front → IsWide y b front2
    → (x ≡ true → rest ≡ []) → (y ≡ true → rest2 ≡ []) → front ++ rest ≡ front2 ++ rest2 → a ≡ b
one_spelling x y a b front front2 rest rest2 is_a is_b wide_a wide_b end_a end_b e =
    (one_front a b (longs rest) (longs rest2) is_a is_b
    (sym (text_longs a rest is_a)
    ∙ ap longs (sym (wide_plain x a front rest is_a wide_a end_a) ∙ ap plain e ∙ wide_plain y b front2 rest2 is_b wide_b end_b)
    ∙ text_longs b rest2 is_b)).0
