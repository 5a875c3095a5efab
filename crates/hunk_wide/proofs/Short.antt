-- A block of short relocations is given out with numbers of 32 bits.
use Rattle.std.proofs.Common.{rules, ◌≡◌, ◌≢◌, ℕ, suc, ◌/◌, ◌^◌, Bool, true, false, not, cond, eqb, List, [], ◌∷◌, ◌++◌, length, refl, sym, ap, ap₂, subst, ◌∙◌, append_assoc, arith}
use Rattle.std.specs.{Prelude.{IsTrue, IsFalse}, Int.{to_be_bytes, w16, w32}, List.{flat_map, AllByRecursion}}
use Rattle.hunk_words.specs.declared.block_word.Kind.{Kind}
use Rattle.hunk_words.specs.declared.block_word.Kind.TheVariants as kinds
use Rattle.hunk_words.specs.{Bits.{has_both_bits, kind}, Longs.bytes_of}
use Rattle.hunk_words.proofs.LongLaws.{bytes_of-append}
use Rattle.hunk_grammar.specs.declared.phase.Phase.TheVariants as phases
use Rattle.hunk_blocks.specs.Parts.{block_text, body_text, group_text, list_text}
use Rattle.hunk_blocks.specs.Modes.{IsOfLoadMode, IsOfMode}
use Rattle.hunk_grammar.specs.declared.mode.Mode.TheVariants as modes
use Rattle.hunk_blocks.specs.Values.{BlockBody, BlockValue, FitsWord, IsBlock, Reloc, RelocGroup, IsGroup}
use Rattle.hunk_blocks.proofs.{Fronts.{All-left, All-right}, Lists.flat_map-append, PartTexts.{body_text_is, group_text_is}}
use Rattle.hunk_grammar.specs.declared.position.OpenHunk.{OpenHunk}
use Rattle.hunk_grammar.specs.declared.position.Position.{Position}
use Rattle.hunk_grammar.specs.declared.position.Position.TheVariants as positions
use Rattle.hunk_wide.specs.declared.position.FilePosition.TheVariants as files
use Rattle.hunk_wide.specs.declared.position.FilePosition.{FilePosition}
use Rattle.hunk_wide.specs.declared.spot.ShortPart.TheVariants.{Count, Target, Offset}
use Rattle.hunk_wide.specs.declared.spot.Spot.{Spot}
use Rattle.hunk_wide.specs.declared.spot.Spot.TheVariants.{Long, Half}
use Rattle.hunk_wide.specs.declared.spot.Given.{Given}
use Rattle.hunk_wide.specs.declared.spot.Given.TheVariants.{AsLong}
use Rattle.hunk_wide.specs.Longwords.{after_short, behind_block, behind_long, given, given_block, go_on, given_kind, long_word, out_long}
use Rattle.hunk_wide.specs.Plain.{plain_from}
use Rattle.hunk_wide.specs.Wide.{filled, halves_of, is_short, IsHalf, IsShort, parity}
use Rattle.hunk_wide.proofs.Steps.{AtBlock, run, run_list, word_begins}
use Rattle.hunk_wide.proofs.Cells.{half_cells, long_cells}

-- ---- numbers

pub parity-append : (odd : Bool) (xs ys : List ℕ) → parity odd (xs ++ ys) ≡ parity (parity odd xs) ys
parity-append odd [] ys = refl
parity-append odd (x ∷ xs) ys = parity-append (not odd) xs ys

pub halves-append : (xs ys : List ℕ) → halves_of (xs ++ ys) ≡ halves_of xs ++ halves_of ys
halves-append xs ys = flat_map-append (to_be_bytes w16) xs ys

-- with what fills up after the 0 that ends the block
abbrev pub tail : Bool → List ℕ
tail odd = cond (not odd) (0 ∷ 0 ∷ []) (0 ∷ [])

pub filled_is : (ns : List ℕ) → filled (ns ++ 0 ∷ []) ≡ ns ++ tail (parity false ns)
filled_is ns = ap (λ (b : Bool). cond b ((ns ++ 0 ∷ []) ++ 0 ∷ []) (ns ++ 0 ∷ [])) (parity-append false ns (0 ∷ [])) ∙ go (parity false ns)
  where
    go : (b : Bool) → cond (not b) ((ns ++ 0 ∷ []) ++ 0 ∷ []) (ns ++ 0 ∷ []) ≡ ns ++ tail b
    go true = refl
    go false = append_assoc ns (0 ∷ []) (0 ∷ [])

-- ---- what is given out for them

module _ (after : FilePosition) where
  offsets_go : (odd : Bool) (n : ℕ) (ns more : List ℕ) → AllByRecursion IsHalf (n ∷ ns) →
      plain_from (Half after (Offset (length ns)) odd) (halves_of (n ∷ ns) ++ more) ≡ bytes_of (n ∷ ns) ++ plain_from (Half after Count (parity odd (n ∷ ns))) more
  unfolding bytes_of
  offsets_go odd n [] more h = half_cells after (Offset 0) odd n more h.0
  offsets_go odd n (m ∷ ns) more h =
      half_cells after (Offset (suc (length ns))) odd n (halves_of (m ∷ ns) ++ more) h.0
      ∙ ap (λ (x : List ℕ). to_be_bytes w32 n ++ x) (offsets_go (not odd) m ns more h.1)

  numbers_go : (odd : Bool) (t : ℕ) (ns more : List ℕ) → ns ≢ [] → AllByRecursion IsHalf (length ns ∷ t ∷ ns) →
      plain_from (Half after Count odd) (halves_of (length ns ∷ t ∷ ns) ++ more) ≡ bytes_of (length ns ∷ t ∷ ns) ++ plain_from (Half after Count (parity odd (length ns ∷ t ∷ ns))) more
  unfolding bytes_of
  numbers_go odd t [] more some h = absurd (some refl)
  numbers_go odd t (n ∷ ns) more some h =
      half_cells after Count odd (suc (length ns)) (halves_of (t ∷ n ∷ ns) ++ more) h.0
      ∙ ap (λ (x : List ℕ). to_be_bytes w32 (suc (length ns)) ++ x)
      (half_cells after (Target (length ns)) (not odd) t (halves_of (n ∷ ns) ++ more) h.1.0
      ∙ ap (λ (x : List ℕ). to_be_bytes w32 t ++ x) (offsets_go (not (not odd)) n ns more h.1.1))

  abbrev Goes : Bool → List ℕ → List ℕ → Type 0
  Goes odd ns more = plain_from (Half after Count odd) (halves_of ns ++ more) ≡ bytes_of ns ++ plain_from (Half after Count (parity odd ns)) more

  group_goes : (odd : Bool) (g : RelocGroup) (more : List ℕ) → IsGroup g → AllByRecursion IsHalf (group_text g) → Goes odd (group_text g) more
  group_goes odd g more is h =
      subst (λ (ns : List ℕ). Goes odd ns more) (sym (group_text_is g))
      (numbers_go odd g.target g.offsets more is.some (subst (λ (ns : List ℕ). AllByRecursion IsHalf ns) (group_text_is g) h))

  two_go : (odd : Bool) (xs ys more : List ℕ) → Goes odd xs (halves_of ys ++ more) → Goes (parity odd xs) ys more → Goes odd (xs ++ ys) more
  two_go odd xs ys more first second =
      ap (λ (b : List ℕ). plain_from (Half after Count odd) (b ++ more)) (halves-append xs ys)
      ∙ ap (λ (b : List ℕ). plain_from (Half after Count odd) b) (append_assoc (halves_of xs) (halves_of ys) more)
      ∙ first ∙ ap (λ (b : List ℕ). bytes_of xs ++ b) second
      ∙ sym (append_assoc (bytes_of xs) (bytes_of ys) _)
      ∙ ap (λ (b : List ℕ). b ++ plain_from (Half after Count (parity (parity odd xs) ys)) more) (sym (bytes_of-append xs ys))
      ∙ ap (λ (b : Bool). bytes_of (xs ++ ys) ++ plain_from (Half after Count b) more) (sym (parity-append odd xs ys))

  groups_go : (odd : Bool) (gs : List RelocGroup) (more : List ℕ) → AllByRecursion IsGroup gs → AllByRecursion IsHalf (flat_map group_text gs) → Goes odd (flat_map group_text gs) more
  unfolding bytes_of
  groups_go odd [] more is h = refl
  groups_go odd (g ∷ gs) more is h =
      two_go odd (group_text g) (flat_map group_text gs) more
      (group_goes odd g (halves_of (flat_map group_text gs) ++ more) is.0 (All-left IsHalf (group_text g) (flat_map group_text gs) h))
      (groups_go (parity odd (group_text g)) gs more is.1 (All-right IsHalf (group_text g) (flat_map group_text gs) h))

  tail_goes : (odd : Bool) (more : List ℕ) → plain_from (Half after Count odd) (halves_of (tail odd) ++ more) ≡ bytes_of (0 ∷ []) ++ plain_from (Long after) more
  unfolding plain_from bytes_of
  tail_goes true more = refl
  tail_goes false more = refl

  -- the numbers of a block
  list_goes : (gs : List RelocGroup) (more : List ℕ) → AllByRecursion IsGroup gs → AllByRecursion IsHalf (list_text group_text gs) →
      plain_from (Half after Count false) (halves_of (filled (list_text group_text gs)) ++ more) ≡ bytes_of (list_text group_text gs) ++ plain_from (Long after) more
  list_goes gs more is h =
      let ns : List ℕ = flat_map group_text gs in
      ap (λ (b : List ℕ). plain_from (Half after Count false) (halves_of b ++ more)) (filled_is ns)
      ∙ ap (λ (b : List ℕ). plain_from (Half after Count false) (b ++ more)) (halves-append ns (tail (parity false ns)))
      ∙ ap (λ (b : List ℕ). plain_from (Half after Count false) b) (append_assoc (halves_of ns) (halves_of (tail (parity false ns))) more)
      ∙ groups_go false gs (halves_of (tail (parity false ns)) ++ more) is (All-left IsHalf ns (0 ∷ []) h)
      ∙ ap (λ (b : List ℕ). bytes_of ns ++ b) (tail_goes (parity false ns) more)
      ∙ sym (append_assoc (bytes_of ns) (bytes_of (0 ∷ [])) _)
      ∙ ap (λ (b : List ℕ). b ++ plain_from (Long after) more) (sym (bytes_of-append ns (0 ∷ [])))

-- ---- the block

module _ (o : OpenHunk) where
  short_given : (k : Kind) → IsTrue (is_short k) → given_kind o k ≡ AsLong
  short_given kinds.Reloc32Short h = refl
  short_given kinds.Drel32 h = refl
  short_given _ h = absurd cc

  pub is_given : (w : ℕ) → has_both_bits w ≡ false → IsTrue (is_short (kind w)) → given_block o w ≡ AsLong
  is_given w bits h = rw bits (short_given (kind w) h)

no_bits : (w : ℕ) → has_both_bits (long_word w) ≡ false → has_both_bits w ≡ false
no_bits w h = let e : w / 2 ^ 30 ≡ long_word w / 2 ^ 30 = omega arith in ap (λ (n : ℕ). eqb n 3) e ∙ h

-- ---- the block in its hunk

-- the longwords of the block
pub short_text : (b : BlockValue) (bytes : List ℕ) (s : IsShort b bytes) → block_text b ≡ long_word s.word ∷ list_text group_text s.groups
short_text b bytes s =
    ap (λ (body : BlockBody). b.word ∷ body_text body) s.body ∙ ap (λ (ns : List ℕ). b.word ∷ ns) (body_text_is (Reloc s.groups))
    ∙ ap (λ (w : ℕ). w ∷ list_text group_text s.groups) s.long

-- At a position where the word is given out as RELOC32, and the next block word comes there, the block is given out whole.
pub short_at : (p after : FilePosition) (b : BlockValue) (bytes more : List ℕ) (s : IsShort b bytes) → AllByRecursion IsGroup s.groups
    → given p s.word ≡ AsLong → behind_long p s.word ≡ Half after Count false →
    plain_from (Long p) (bytes ++ more) ≡ bytes_of (block_text b) ++ plain_from (Long after) more
unfolding bytes_of
short_at p after b bytes more s is g n =
    ap (λ (x : List ℕ). plain_from (Long p) (x ++ more)) s.text
    ∙ long_cells p s.word (halves_of (filled (list_text group_text s.groups)) ++ more) s.fits
    ∙ ap₂ (λ (x : Given) (y : Spot). out_long x (to_be_bytes w32 s.word) s.word ++ plain_from y (halves_of (filled (list_text group_text s.groups)) ++ more)) g n
    ∙ ap (λ (x : List ℕ). to_be_bytes w32 (long_word s.word) ++ x) (list_goes after s.groups more is s.halves)
    ∙ ap (λ (ns : List ℕ). bytes_of ns ++ plain_from (Long after) more) (sym (short_text b bytes s))

pub groups_fit : (word : ℕ) (body : BlockBody) (groups : List RelocGroup) → body ≡ Reloc groups → FitsWord word body → AllByRecursion IsGroup groups
groups_fit word body groups e h = (subst (λ (x : BlockBody). FitsWord word x) e h).1

pub kind_fits : (word : ℕ) (body : BlockBody) (groups : List RelocGroup) → body ≡ Reloc groups → IsOfLoadMode word body → kind word ≡ kinds.Reloc32
kind_fits word body groups e h = subst (λ (x : BlockBody). IsOfLoadMode word x) e h

pub false_is : (x : Bool) → IsFalse x → x ≡ false
false_is x h = search rules

pub word_bits : (b : BlockValue) (bytes : List ℕ) (s : IsShort b bytes) → IsFalse (has_both_bits b.word) → has_both_bits s.word ≡ false
word_bits b bytes s h = no_bits s.word (ap has_both_bits (sym s.long) ∙ false_is (has_both_bits b.word) h)

-- A block in short is given out as its longwords are, and leads where they do.
pub short_goes : (has : Bool) (p : Position) (b : BlockValue) (bytes more : List ℕ) → AtBlock has p → IsBlock b → IsOfMode modes.Load b → IsShort b bytes →
    plain_from (go_on (files.Load p)) (bytes ++ more) ≡ bytes_of (block_text b) ++ plain_from (go_on (files.Load (run p (block_text b)))) more
short_goes has (positions.Body o phases.FirstBlock) b bytes more at is mode s =
    let e = is_given o s.word (word_bits b bytes s is.bits) s.short in
    let gs = groups_fit b.word b.body s.groups s.body is.body in
    short_at (files.Load (positions.Body o phases.FirstBlock)) (after_short o) b bytes more s gs e (ap (λ (g : Given). behind_block g o phases.FirstBlock s.word) e)
    ∙ ap (λ (q : Position). bytes_of (block_text b) ++ plain_from (go_on (files.Load q)) more)
    (sym (ap (run (positions.Body o phases.FirstBlock)) (short_text b bytes s)
    ∙ ap (λ (q : Position). run q (list_text group_text s.groups)) (word_begins o (long_word s.word) (ap kind (sym s.long) ∙ kind_fits b.word b.body s.groups s.body mode))
    ∙ run_list o s.groups gs))
short_goes has (positions.Body o phases.BlockWord) b bytes more at is mode s =
    let e = is_given o s.word (word_bits b bytes s is.bits) s.short in
    let gs = groups_fit b.word b.body s.groups s.body is.body in
    short_at (files.Load (positions.Body o phases.BlockWord)) (after_short o) b bytes more s gs e (ap (λ (g : Given). behind_block g o phases.BlockWord s.word) e)
    ∙ ap (λ (q : Position). bytes_of (block_text b) ++ plain_from (go_on (files.Load q)) more)
    (sym (ap (run (positions.Body o phases.BlockWord)) (short_text b bytes s)
    ∙ ap (λ (q : Position). run q (list_text group_text s.groups)) (word_begins o (long_word s.word) (ap kind (sym s.long) ∙ kind_fits b.word b.body s.groups s.body mode))
    ∙ run_list o s.groups gs))
short_goes has (positions.Body o _) b bytes more at is mode s = absurd at
short_goes has _ b bytes more at is mode s = absurd at
