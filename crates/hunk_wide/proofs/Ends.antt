-- A wide spelling of a load file leads to the end of the file, whatever follows.
use Rattle.std.proofs.Common.{◌≡◌, ◌≢◌, ℕ, zero, suc, ◌+◌, ◌*◌, ◌^◌, ◌<◌, Bool, true, false, not, ◌||◌, List, [], ◌∷◌, ◌++◌, length, map, refl, sym, ap, subst, ◌∙◌, append_assoc, append-nil, inl, inr, Option, None, Some, arith}
use Rattle.std.specs.{Int.{to_be_bytes, w32}, List.{flat_map, AllByRecursion}}
use Rattle.hunk_words.specs.{Bits.{end_word, has_both_bits, kind}, Longs.bytes_of}
use Rattle.hunk_blocks.specs.Faults.{words}
use Rattle.hunk_blocks.specs.{Parts.{block_parts, block_text, group_text, list_text}, Modes.IsOfMode, Values.{BlockValue, IsBlock, RelocGroup, IsGroup}}
use Rattle.hunk_blocks.proofs.{Fronts.{All-left, All-right}, PartTexts.group_text_is}
use Rattle.hunk_grammar.specs.declared.mode.Mode.TheVariants as modes
use Rattle.hunk_grammar.specs.declared.phase.Phase.{Phase}
use Rattle.hunk_grammar.specs.declared.phase.Phase.TheVariants as phases
use Rattle.hunk_grammar.specs.PhaseSteps as inside
use Rattle.hunk_grammar.specs.declared.position.OpenHunk.{OpenHunk}
use Rattle.hunk_grammar.specs.declared.position.Position.{Position}
use Rattle.hunk_grammar.specs.declared.position.Position.TheVariants as positions
use Rattle.hunk_grammar.specs.Positions.{close, open_next, role_at, step}
use Rattle.hunk_grammar.specs.Roles.{Place, refuse}
use Rattle.hunk_grammar.specs.Standings.{Ending, is_content}
use Rattle.hunk_blocks.specs.AlongText.{GoesAlong}
use Rattle.hunk_files.specs.LoadFile.{HunkValue, LoadFileValue, standing, AreInOrder, IsHunkBlock, IsHunk, IsLoadFile, declared_longs}
use Rattle.hunk_files.specs.LoadText.{block_labelled, blocks_labelled, header_labelled, hunk_labelled, labelled, table, text}
use Rattle.hunk_files.specs.{Machines.{longs_of, refuse_in_load}, WordsRead.{AreAccepted, Labelled}}
use Rattle.hunk_files.proofs.walk.{Accepted.labelled_accepted, Machines.load_along}
use Rattle.hunk_wide.specs.declared.position.FilePosition.{FilePosition}
use Rattle.hunk_wide.specs.declared.position.FilePosition.TheVariants as files
use Rattle.hunk_wide.specs.declared.spot.ShortPart.TheVariants.{Count, Target, Offset}
use Rattle.hunk_wide.specs.declared.spot.Spot.{Spot}
use Rattle.hunk_wide.specs.declared.spot.Spot.TheVariants.{Passing, Straight, Long, Half}
use Rattle.hunk_wide.specs.declared.spot.Given.{Given}
use Rattle.hunk_wide.specs.{Held.{Held, left_of}, InFile.{InFile, LeadsTo, spot_after, spot_of}, Plain.plain, Longwords.{after_short, behind_block, behind_load, given_block, go_on, long_word}}
use Rattle.hunk_wide.specs.Wide.{IsHalf, IsShort, IsWide, MayLeaveOut, SpellsBlock, SpellsBlocks, SpellsHunks, end_block, filled, halves_of, parity}
use Rattle.hunk_wide.proofs.{Along.step_same, Leads.{half_leads, long_leads, two_lead}, Steps.{Along, AtBlock, along_run, along_split, at_block, run, run_list, word_begins}}
use Rattle.hunk_wide.proofs.Short.{filled_is, groups_fit, halves-append, is_given, kind_fits, parity-append, short_text, tail, word_bits}
use Rattle.hunk_wide.proofs.Spelled.{IsContentKind, begins_blocks, begins_more, first, first_at, order_next, some_ahead, wide_plain, word_behind, word_first, words_in}

-- ---- longwords

-- a longword of a load file at this position
abbrev load_at : Position → Spot
load_at p = Long (files.Load p)

-- what is next in a load file at this position
abbrev load_on : Position → Spot
load_on p = go_on (files.Load p)

four_lead : (k w : ℕ) (next : FilePosition) (more : List ℕ) → spot_after (Straight (4 * suc k + 3) next) (to_be_bytes w32 w ++ more) ≡ spot_after (Straight (4 * k + 3) next) more
unfolding spot_after
four_lead k w next more =
    let e : 4 * suc k + 3 ≡ suc (suc (suc (suc (4 * k + 3)))) = omega arith in
    ap (λ (n : ℕ). spot_after (Straight n next) (to_be_bytes w32 w ++ more)) e

run_leads : (o : OpenHunk) (phase : Phase) (w : ℕ) → 0 < inside.longest_run phase → LeadsTo (load_on (positions.Body o phase)) (to_be_bytes w32 w) (load_on (step (positions.Body o phase) w))
unfolding spot_after
run_leads o (phases.Content longs zero) w h more = refl
run_leads o (phases.Content longs (suc k)) w h more = four_lead k w _ more
run_leads o (phases.Payload zero) w h more = refl
run_leads o (phases.Payload (suc k)) w h more = four_lead k w _ more
run_leads o (phases.Symbol zero) w h more = refl
run_leads o (phases.Symbol (suc k)) w h more = four_lead k w _ more
run_leads o (phases.ExtFront zero) w h more = refl
run_leads o (phases.ExtFront (suc k)) w h more = four_lead k w _ more
run_leads o (phases.ExtRest zero) w h more = refl
run_leads o (phases.ExtRest (suc k)) w h more = four_lead k w _ more
run_leads o (phases.Offset t zero) w h more = refl
run_leads o (phases.Offset t (suc k)) w h more = four_lead k w _ more
run_leads o _ w h more = absurd (omega arith)

long_same : (longs : ℕ) (p : Position) (w : ℕ) → w < 2 ^ 32 → refuse (role_at longs p) w ≡ None → LeadsTo (load_at p) (to_be_bytes w32 w) (load_on (step p w))
long_same longs p w fits h more = long_leads (files.Load p) w fits more ∙ ap (λ (s : Spot). spot_after s more) (step_same longs p w h)

one_long : (longs : ℕ) (p : Position) (w : ℕ) → w < 2 ^ 32 → refuse (role_at longs p) w ≡ None → LeadsTo (load_on p) (to_be_bytes w32 w) (load_on (step p w))
unfolding spot_after
one_long longs positions.Done w fits h more = refl
one_long longs (positions.Body o (phases.Content l owed)) w fits h more = run_leads o (phases.Content l owed) w (omega arith) more
one_long longs (positions.Body o (phases.Payload owed)) w fits h more = run_leads o (phases.Payload owed) w (omega arith) more
one_long longs (positions.Body o (phases.Symbol owed)) w fits h more = run_leads o (phases.Symbol owed) w (omega arith) more
one_long longs (positions.Body o (phases.ExtFront owed)) w fits h more = run_leads o (phases.ExtFront owed) w (omega arith) more
one_long longs (positions.Body o (phases.ExtRest owed)) w fits h more = run_leads o (phases.ExtRest owed) w (omega arith) more
one_long longs (positions.Body o (phases.Offset t owed)) w fits h more = run_leads o (phases.Offset t owed) w (omega arith) more
one_long longs (positions.Body o phase) w fits h more = long_same longs (positions.Body o phase) w fits h more
one_long longs p w fits h more = long_same longs p w fits h more

along_leads : (p q : Position) (ls : Labelled) → GoesAlong refuse_in_load refuse step p ls q → AreAccepted ls → LeadsTo (load_on p) (bytes_of (words ls)) (load_on q)
unfolding bytes_of
along_leads p q [] h ok more = ap (λ (x : Position). spot_after (load_on x) more) h
along_leads p q (l ∷ ls) h ok more =
    one_long (longs_of l.0) p l.1 ok.0.0 (h.0 l.1 ∙ ok.0.1) (bytes_of (words ls) ++ more) ∙ along_leads (step p l.1) q ls h.1 ok.1 more

-- ---- a block of short relocations

module _ (o : OpenHunk) where
  offsets_lead : (odd : Bool) (n : ℕ) (ns : List ℕ) → AllByRecursion IsHalf (n ∷ ns) → LeadsTo (Half (after_short o) (Offset (length ns)) odd) (halves_of (n ∷ ns)) (Half (after_short o) Count (parity odd (n ∷ ns)))
  offsets_lead odd n [] h more = half_leads (after_short o) (Offset 0) odd n h.0 more
  offsets_lead odd n (m ∷ ns) h more = half_leads (after_short o) (Offset (suc (length ns))) odd n h.0 (halves_of (m ∷ ns) ++ more) ∙ offsets_lead (not odd) m ns h.1 more

  abbrev Leads : Bool → List ℕ → Type 0
  Leads odd ns = LeadsTo (Half (after_short o) Count odd) (halves_of ns) (Half (after_short o) Count (parity odd ns))

  numbers_lead : (odd : Bool) (t : ℕ) (ns : List ℕ) → ns ≢ [] → AllByRecursion IsHalf (length ns ∷ t ∷ ns) → Leads odd (length ns ∷ t ∷ ns)
  numbers_lead odd t [] some h more = absurd (some refl)
  numbers_lead odd t (n ∷ ns) some h more =
      half_leads (after_short o) Count odd (suc (length ns)) h.0 (halves_of (t ∷ n ∷ ns) ++ more)
      ∙ half_leads (after_short o) (Target (length ns)) (not odd) t h.1.0 (halves_of (n ∷ ns) ++ more)
      ∙ offsets_lead (not (not odd)) n ns h.1.1 more

  group_leads : (odd : Bool) (g : RelocGroup) → IsGroup g → AllByRecursion IsHalf (group_text g) → Leads odd (group_text g)
  group_leads odd g is h =
      subst (λ (ns : List ℕ). Leads odd ns) (sym (group_text_is g)) (numbers_lead odd g.target g.offsets is.some (subst (λ (ns : List ℕ). AllByRecursion IsHalf ns) (group_text_is g) h))

  groups_lead : (odd : Bool) (gs : List RelocGroup) → AllByRecursion IsGroup gs → AllByRecursion IsHalf (flat_map group_text gs) → Leads odd (flat_map group_text gs)
  groups_lead odd [] is h more = refl
  groups_lead odd (g ∷ gs) is h more =
      let ns : List ℕ = flat_map group_text gs in
      ap (λ (x : List ℕ). spot_after (Half (after_short o) Count odd) (x ++ more)) (halves-append (group_text g) ns)
      ∙ two_lead (Half (after_short o) Count odd) (Half (after_short o) Count (parity odd (group_text g))) _ (halves_of (group_text g)) (halves_of ns)
      (group_leads odd g is.0 (All-left IsHalf (group_text g) ns h)) (groups_lead (parity odd (group_text g)) gs is.1 (All-right IsHalf (group_text g) ns h)) more
      ∙ ap (λ (b : Bool). spot_after (Half (after_short o) Count b) more) (sym (parity-append odd (group_text g) ns))

  tail_leads : (odd : Bool) → LeadsTo (Half (after_short o) Count odd) (halves_of (tail odd)) (load_at (positions.Body o phases.BlockWord))
  unfolding spot_after
  tail_leads true more = refl
  tail_leads false more = refl

  list_leads : (gs : List RelocGroup) → AllByRecursion IsGroup gs → AllByRecursion IsHalf (list_text group_text gs)
      → LeadsTo (Half (after_short o) Count false) (halves_of (filled (list_text group_text gs))) (load_at (positions.Body o phases.BlockWord))
  list_leads gs is h more =
      let ns : List ℕ = flat_map group_text gs in
      ap (λ (x : List ℕ). spot_after (Half (after_short o) Count false) (x ++ more)) (ap halves_of (filled_is ns) ∙ halves-append ns (tail (parity false ns)))
      ∙ two_lead (Half (after_short o) Count false) (Half (after_short o) Count (parity false ns)) _ (halves_of ns) (halves_of (tail (parity false ns)))
      (groups_lead false gs is (All-left IsHalf ns (0 ∷ []) h)) (tail_leads (parity false ns)) more

  short_at : (p : Position) (b : BlockValue) (bytes : List ℕ) (s : IsShort b bytes) → AllByRecursion IsGroup s.groups → behind_load p s.word ≡ Half (after_short o) Count false → LeadsTo (load_at p) bytes (load_at (positions.Body o phases.BlockWord))
  unfolding bytes_of
  short_at p b bytes s is n more =
      let numbers : List ℕ = halves_of (filled (list_text group_text s.groups)) in
      ap (λ (x : List ℕ). spot_after (load_at p) (x ++ more)) s.text
      ∙ long_leads (files.Load p) s.word s.fits (numbers ++ more)
      ∙ ap (λ (x : Spot). spot_after x (numbers ++ more)) n
      ∙ list_leads s.groups is s.halves more

short_leads : (has : Bool) (p : Position) (b : BlockValue) (bytes : List ℕ) → AtBlock has p → IsBlock b → IsOfMode modes.Load b → IsShort b bytes → LeadsTo (load_on p) bytes (load_on (run p (block_text b)))
short_leads has (positions.Body o phases.FirstBlock) b bytes at is mode s more =
    let e = is_given o s.word (word_bits b bytes s is.bits) s.short in
    let gs = groups_fit b.word b.body s.groups s.body is.body in
    short_at o (positions.Body o phases.FirstBlock) b bytes s gs (ap (λ (g : Given). behind_block g o phases.FirstBlock s.word) e) more
    ∙ ap (λ (q : Position). spot_after (load_on q) more)
    (sym (ap (run (positions.Body o phases.FirstBlock)) (short_text b bytes s)
    ∙ ap (λ (q : Position). run q (list_text group_text s.groups)) (word_begins o (long_word s.word) (ap kind (sym s.long) ∙ kind_fits b.word b.body s.groups s.body mode))
    ∙ run_list o s.groups gs))
short_leads has (positions.Body o phases.BlockWord) b bytes at is mode s more =
    let e = is_given o s.word (word_bits b bytes s is.bits) s.short in
    let gs = groups_fit b.word b.body s.groups s.body is.body in
    short_at o (positions.Body o phases.BlockWord) b bytes s gs (ap (λ (g : Given). behind_block g o phases.BlockWord s.word) e) more
    ∙ ap (λ (q : Position). spot_after (load_on q) more)
    (sym (ap (run (positions.Body o phases.BlockWord)) (short_text b bytes s)
    ∙ ap (λ (q : Position). run q (list_text group_text s.groups)) (word_begins o (long_word s.word) (ap kind (sym s.long) ∙ kind_fits b.word b.body s.groups s.body mode))
    ∙ run_list o s.groups gs))
short_leads has (positions.Body o _) b bytes at is mode s more = absurd at
short_leads has _ b bytes at is mode s more = absurd at

-- ---- blocks

block_leads : (place : Place) (b : BlockValue) (p q : Position) (bytes : List ℕ) → IsHunkBlock place.hunks place.longs b → AreAccepted (block_labelled place b) → Along p (block_labelled place b) q → SpellsBlock b bytes → LeadsTo (load_on p) bytes (load_on q)
block_leads place b p q bytes is ok along (inl e) more =
    ap (λ (x : List ℕ). spot_after (load_on p) (x ++ more)) (e ∙ ap bytes_of (sym (words_in place (block_parts b)))) ∙ along_leads p q (block_labelled place b) along ok more
block_leads place b p q bytes is ok along (inr s) more =
    short_leads place.has_content p b bytes (at_block p place along.0) is.block is.mode s more
    ∙ ap (λ (r : Position). spot_after (load_on r) more) (ap (run p) (sym (words_in place (block_parts b))) ∙ along_run p q (block_labelled place b) along)

module _ (hunks longs : ℕ) where
  abbrev place_of : Bool → Place
  place_of has = record { hunks = hunks; longs = longs; has_content = has }

  abbrev labels : Bool → List BlockValue → Labelled
  labels has bs = blocks_labelled hunks longs has bs

  abbrev behind : Bool → BlockValue → Bool
  behind has b = has || is_content (standing b.body)

  blocks_lead : (has : Bool) (bs : List BlockValue) (p q : Position) (bytes : List ℕ) → AllByRecursion (IsHunkBlock hunks longs) bs → AreAccepted (labels has bs)
      → Along p (labels has bs) q → SpellsBlocks false bs bytes → LeadsTo (load_on p) bytes (load_on q)
  blocks_lead has [] p q bytes is ok along e more = λ i. spot_after (load_on (along i)) (e i ++ more)
  blocks_lead has (b ∷ bs) p q bytes is ok along s more =
      let k = along_split p q (block_labelled (place_of has) b) (labels (behind has b) bs) along in
      ap (λ (x : List ℕ). spot_after (load_on p) (x ++ more)) s.2
      ∙ two_lead (load_on p) (load_on k.0) (load_on q) s.0 s.1
      (block_leads (place_of has) b p k.0 s.0 is.0 (All-left _ (block_labelled (place_of has) b) (labels (behind has b) bs) ok) k.1 s.3)
      (blocks_lead (behind has b) bs k.0 q s.1 is.1 (All-right _ (block_labelled (place_of has) b) (labels (behind has b) bs) ok) k.2 s.4) more

  -- with END left out: where what comes before it leads
  record LeavesEnd (p q : Position) (bytes : List ℕ) : Type 0 where
    pub end_at : Position
    pub leads : LeadsTo (load_on p) bytes (load_on end_at)
    pub at_end : AtBlock true end_at
    pub closes : step end_at end_word ≡ q

  last_end : (has : Bool) (p q : Position) (bytes : List ℕ) → Along p (labels has (end_block ∷ [])) q → AreInOrder has (Ending ∷ []) → bytes ≡ [] → LeavesEnd p q bytes
  last_end false p q bytes along o e = absurd o
  last_end true p q bytes along o e = record {
    end_at = p;
    leads = λ more. ap (λ (x : List ℕ). spot_after (load_on p) (x ++ more)) e;
    at_end = at_block p (place_of true) along.0;
    closes = along.1;
  }

  blocks_leave : (has : Bool) (bs : List BlockValue) (p q : Position) (bytes : List ℕ) → AllByRecursion (IsHunkBlock hunks longs) bs → AreAccepted (labels has bs)
      → Along p (labels has bs) q → AreInOrder has (map (λ (b : BlockValue). standing b.body) bs) → SpellsBlocks true bs bytes → LeavesEnd p q bytes
  blocks_leave has [] p q bytes is ok along o s = absurd o
  blocks_leave has (b ∷ []) p q bytes is ok along o s =
      subst (λ (x : BlockValue). Along p (labels has (x ∷ [])) q → AreInOrder has (standing x.body ∷ []) → LeavesEnd p q bytes) (sym s.0)
      (λ a k. last_end has p q bytes a k s.1) along o
  blocks_leave has (b ∷ c ∷ bs) p q bytes is ok along o s =
      let rest : Labelled = labels (behind has b) (c ∷ bs) in
      let k = along_split p q (block_labelled (place_of has) b) rest along in
      let later = blocks_leave (behind has b) (c ∷ bs) k.0 q s.1 is.1 (All-right _ (block_labelled (place_of has) b) rest ok) k.2
      (order_next hunks longs (standing b.body) (standing c.body) has (map (λ (d : BlockValue). standing d.body) bs) o) s.4 in
      record {
        end_at = later.end_at;
        leads = λ more.
            ap (λ (x : List ℕ). spot_after (load_on p) (x ++ more)) s.2
            ∙ two_lead (load_on p) (load_on k.0) (load_on later.end_at) s.0 s.1 (block_leads (place_of has) b p k.0 s.0 is.0 (All-left _ (block_labelled (place_of has) b) rest ok) k.1 s.3) later.leads more;
        at_end = later.at_end;
        closes = later.closes;
      }

-- ---- END put back

module _ (o : OpenHunk) (w : ℕ) (more : List ℕ) (fits : w < 2 ^ 32) (bits : has_both_bits w ≡ false) (content : IsContentKind (kind w)) (has : o.has_content ≡ true) (some : (k : ℕ) × (o.ahead ≡ suc k)) where
  -- from a block word of the hunk, as from the first of the next
  ends_before : (phase : Phase) (p : Position) → behind_load p w ≡ behind_block (given_block o w) o phase w → spot_after (load_at p) (to_be_bytes w32 w ++ more) ≡ spot_after (load_on (close o)) (to_be_bytes w32 w ++ more)
  ends_before phase p b =
      let opens : close o ≡ positions.Body (first o some.0) phases.FirstBlock = ap (open_next o.hunks) some.1 in
      let next : OpenHunk = first o some.0 in
      long_leads (files.Load p) w fits more
      ∙ ap (λ (s : Spot). spot_after s more) (b ∙ ap (λ (x : Given). behind_block x o phase w) (word_behind o w some.0 has some.1 bits content))
      ∙ sym (ap (λ (x : Position). spot_after (load_on x) (to_be_bytes w32 w ++ more)) opens
      ∙ long_leads (files.Load (positions.Body next phases.FirstBlock)) w fits more
      ∙ ap (λ (g : Given). spot_after (behind_block g next phases.FirstBlock w) more) (word_first next w refl bits content)
      ∙ ap (λ (x : Position). spot_after (load_on (step x w)) more) (sym opens))

end_before : (p q : Position) (w : ℕ) (more : List ℕ) → w < 2 ^ 32 → has_both_bits w ≡ false → IsContentKind (kind w) → AtBlock true p → step p end_word ≡ q → AtBlock false q
    → spot_after (load_on p) (to_be_bytes w32 w ++ more) ≡ spot_after (load_on q) (to_be_bytes w32 w ++ more)
unfolding kind
end_before (positions.Body o phases.FirstBlock) q w more fits bits is at e next =
    ends_before o w more fits bits is at (some_ahead o.hunks o.ahead (subst (AtBlock false) (sym e) next)) phases.FirstBlock (positions.Body o phases.FirstBlock) refl
    ∙ ap (λ (x : Position). spot_after (load_on x) (to_be_bytes w32 w ++ more)) e
end_before (positions.Body o phases.BlockWord) q w more fits bits is at e next =
    ends_before o w more fits bits is at (some_ahead o.hunks o.ahead (subst (AtBlock false) (sym e) next)) phases.BlockWord (positions.Body o phases.BlockWord) refl
    ∙ ap (λ (x : Position). spot_after (load_on x) (to_be_bytes w32 w ++ more)) e
end_before (positions.Body o _) q w more fits bits is at e next = absurd at
end_before _ q w more fits bits is at e next = absurd at

-- ---- hunks

module _ (hunks : ℕ) where
  abbrev all : List HunkValue → Labelled
  all hs = flat_map (hunk_labelled hunks) hs

  end_back : (hs : List HunkValue) (p q : Position) (bytes : List ℕ) → AllByRecursion (IsHunk hunks) hs → Along q (all hs) positions.Done → AtBlock true p → step p end_word ≡ q
      → MayLeaveOut false hs → SpellsHunks false hs bytes → (more : List ℕ) → spot_after (load_on p) (bytes ++ more) ≡ spot_after (load_on q) (bytes ++ more)
  end_back [] p q bytes is along at e may s more = absurd (cc may)
  end_back (h ∷ hs) p q bytes is along at e may s more =
      let b = begins_more bytes s.1 s.2 s.3 (begins_blocks hunks (declared_longs h) s.0 h.blocks s.1 is.0.blocks may s.4) in
      let cut : bytes ++ more ≡ to_be_bytes w32 b.word ++ (b.back ++ more) = ap (λ (x : List ℕ). x ++ more) b.split in
      ap (spot_after (load_on p)) cut
      ∙ end_before p q b.word (b.back ++ more) b.fits b.bits b.content at e (first_at hunks q positions.Done h (all hs) may along)
      ∙ ap (spot_after (load_on q)) (sym cut)

  hunks_lead : (hs : List HunkValue) (p : Position) (bytes : List ℕ) → AllByRecursion (IsHunk hunks) hs → AreAccepted (all hs) → Along p (all hs) positions.Done → SpellsHunks false hs bytes → LeadsTo (load_on p) bytes (load_on positions.Done)
  hunks_lead [] p bytes is ok along s more = λ i. spot_after (load_on (along i)) (s i ++ more)
  hunks_lead (h ∷ hs) p bytes is ok along s more =
      let k = along_split p positions.Done (hunk_labelled hunks h) (all hs) along in
      let fine = All-left _ (hunk_labelled hunks h) (all hs) ok in
      let later = hunks_lead hs k.0 s.2 is.1 (All-right _ (hunk_labelled hunks h) (all hs) ok) k.2 s.6 in
      let split : bytes ++ more ≡ s.1 ++ (s.2 ++ more) = ap (λ (x : List ℕ). x ++ more) s.3 ∙ append_assoc s.1 s.2 more in
      ap (spot_after (load_on p)) split ∙ go s.0 h hs p k.0 s.1 s.2 is fine k.1 k.2 s.4 s.5 s.6 more ∙ later more
    where
      go : (left_out : Bool) (h : HunkValue) (hs : List HunkValue) (p q : Position) (front back : List ℕ) → AllByRecursion (IsHunk hunks) (h ∷ hs) → AreAccepted (hunk_labelled hunks h)
          → Along p (hunk_labelled hunks h) q → Along q (all hs) positions.Done → SpellsBlocks left_out h.blocks front → (left_out ≡ true → MayLeaveOut false hs) → SpellsHunks false hs back
          → (more : List ℕ) → spot_after (load_on p) (front ++ (back ++ more)) ≡ spot_after (load_on q) (back ++ more)
      go false h hs p q front back is ok along next s may t more = blocks_lead hunks (declared_longs h) false h.blocks p q front is.0.blocks ok along s (back ++ more)
      go true h hs p q front back is ok along next s may t more =
          let l = blocks_leave hunks (declared_longs h) false h.blocks p q front is.0.blocks ok along is.0.order s in
          l.leads (back ++ more) ∙ end_back hs l.end_at q back is.1 next l.at_end l.closes (may refl) t more

-- ---- the file

-- What follows a wide spelling of a load file passes, where that has its last END.
pub wide_leads : (v : LoadFileValue) (bytes : List ℕ) → IsLoadFile v → IsWide false v bytes → LeadsTo (load_at positions.FirstLong) bytes Passing
unfolding labelled
wide_leads v bytes is s more =
    let header : Labelled = header_labelled (table v) in
    let hunks : Labelled = flat_map (hunk_labelled (length v)) v in
    let k = along_split positions.FirstLong positions.Done header hunks (load_along v is) in
    let ok = labelled_accepted v is in
    ap (λ (x : List ℕ). spot_after (load_at positions.FirstLong) (x ++ more)) s.text
    ∙ two_lead (load_at positions.FirstLong) (load_on k.0) Passing (bytes_of (words header)) s.hunks (along_leads positions.FirstLong k.0 header k.1 (All-left _ header hunks ok))
    (hunks_lead (length v) v k.0 s.hunks is.each (All-right _ header hunks ok) k.2 s.spells) more

pub wide_in_file : (h : Held) (left : Option (List ℕ)) (v : LoadFileValue) (bytes rest : List ℕ) → ((more : List ℕ) → left_of h more ≡ plain more) → ((more : List ℕ) → spot_of h more ≡ spot_after (load_at positions.FirstLong) more)
    → IsLoadFile v → IsWide false v bytes → left ≡ Some (bytes ++ rest) → InFile h left (bytes_of (text v)) rest
unfolding spot_after
wide_in_file h left v bytes rest gives leads is wide e = record {
  bytes = bytes;
  source = e;
  ends = leads bytes ∙ ap (spot_after (load_at positions.FirstLong)) (sym (append-nil bytes)) ∙ wide_leads v bytes is wide [];
  gives = gives bytes ∙ ap plain (sym (append-nil bytes)) ∙ wide_plain false v bytes [] is wide (λ x. refl) ∙ append-nil (bytes_of (text v));
}
