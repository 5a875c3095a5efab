-- From which bytes the word of a block comes: from itself, from the word of a short block, or from none, where END is put in.
use Rattle.std.proofs.Common.{◌≡◌, ℕ, zero, suc, ◌+◌, ◌^◌, ◌<◌, Bool, true, false, ◌&&◌, cond, eqb, ltb, List, [], ◌∷◌, ◌++◌, length, get_or, refl, sym, ap, ap₂, ◌∙◌, arith}
use Rattle.std.specs.Int.{from_be_bytes, to_be_bytes, w32}
use Rattle.std.specs.Prelude.{IsTrue}
use Rattle.std.proofs.lemmas.{Bool.{eqb-true}, Nat.{be_bytes_4, from_be_bytes-to_be_bytes_4}}
use Rattle.hunk_words.specs.declared.block_word.Kind.{Kind}
use Rattle.hunk_words.specs.declared.block_word.Kind.TheVariants as kinds
use Rattle.hunk_words.specs.{Bits.{end_word, has_both_bits, kind}, Longs.{IsBytes, IsLong}}
use Rattle.hunk_grammar.specs.declared.phase.Phase.{Phase}
use Rattle.hunk_grammar.specs.declared.phase.Phase.TheVariants as phases
use Rattle.hunk_grammar.specs.declared.position.OpenHunk.{OpenHunk}
use Rattle.hunk_grammar.specs.declared.position.Position.{Position}
use Rattle.hunk_grammar.specs.declared.position.Position.TheVariants as positions
use Rattle.hunk_grammar.specs.Positions.{close, open_next, step}
use Rattle.hunk_wide.specs.declared.position.FilePosition.{FilePosition}
use Rattle.hunk_wide.specs.declared.position.FilePosition.TheVariants as files
use Rattle.hunk_wide.specs.declared.spot.Spot.{Spot}
use Rattle.hunk_wide.specs.declared.spot.Spot.TheVariants.{Long, Half}
use Rattle.hunk_wide.specs.declared.spot.ShortPart.TheVariants.{Count}
use Rattle.hunk_wide.specs.declared.spot.Given.{Given}
use Rattle.hunk_wide.specs.declared.spot.Given.TheVariants.{Same, BehindEnd, AsLong}
use Rattle.hunk_wide.specs.FileEnds.{ends}
use Rattle.hunk_wide.specs.Longwords.{after_short, behind_block, behind_load, given, given_block, given_kind, go_on, long_word, out_long}
use Rattle.hunk_wide.specs.Plain.{plain_from}
use Rattle.hunk_wide.specs.Spellings.{counted, ends_from, has_end, one_if, short_blocks_from}
use Rattle.hunk_wide.specs.Spellings as spellings
use Rattle.hunk_wide.specs.Wide.{is_short}
use Rattle.hunk_wide.proofs.{Spelled.{IsContentKind, first, word_first}}
use Rattle.hunk_wide.proofs.From.{Comes, back4, from_cells, front4}

-- ---- block words

-- END is put in before this, and after it `more` is given out: the end of the input, or the word of a content.
pub data PutBefore (o : OpenHunk) (more : List ℕ) : Type 0 where
  AtEnd : o.ahead ≡ 0 → more ≡ [] → PutBefore o more
  AtNext : 0 < o.ahead → (a b c d : ℕ) (rest : List ℕ) → more ≡ a ∷ b ∷ c ∷ d ∷ rest → IsContentKind (kind (from_be_bytes w32 (a ∷ b ∷ c ∷ d ∷ []))) → PutBefore o more

-- What a block word comes from: itself, the word of a short block, or nothing, as it is put in.
pub data WordComes (o : OpenHunk) (phase : Phase) (w : ℕ) (input more : List ℕ) : Type 0 where
  Kept : Comes (Long (files.Load (positions.Body o phase))) (go_on (files.Load (step (positions.Body o phase) w))) input more (to_be_bytes w32 w) 0 0 → WordComes o phase w input more
  Short : (x : ℕ) → IsLong x → IsTrue (is_short (kind x)) → w ≡ long_word x
      → Comes (Long (files.Load (positions.Body o phase))) (Half (after_short o) Count false) input more (to_be_bytes w32 x) 1 0 → WordComes o phase w input more
  Put : w ≡ end_word → PutBefore o more → Comes (Long (files.Load (positions.Body o phase))) (go_on (files.Load (close o))) input more [] 0 1 → WordComes o phase w input more

not_long : (b : Bool) → cond b BehindEnd Same ≡ AsLong → ⊥
not_long true e = cc e
not_long false e = cc e

kind_is_short : (o : OpenHunk) (k : Kind) → given_kind o k ≡ AsLong → IsTrue (is_short k)
kind_is_short o kinds.Reloc32Short e = refl
kind_is_short o kinds.Drel32 e = refl
kind_is_short o kinds.Code e = absurd (not_long (o.has_content && ltb 0 o.ahead) e)
kind_is_short o kinds.Data e = absurd (not_long (o.has_content && ltb 0 o.ahead) e)
kind_is_short o kinds.Bss e = absurd (not_long (o.has_content && ltb 0 o.ahead) e)
kind_is_short o _ e = absurd (cc e)

-- what END before this kind says
record Behind (o : OpenHunk) (k : Kind) : Type 0 where
  some : 0 < o.ahead
  content : IsContentKind k

some_ahead : (has : Bool) (ahead : ℕ) → cond (has && ltb 0 ahead) BehindEnd Same ≡ BehindEnd → 0 < ahead
some_ahead has zero e = absurd (none has e)
  where
    none : (b : Bool) → cond (b && false) BehindEnd Same ≡ BehindEnd → ⊥
    none true e = cc e
    none false e = cc e
some_ahead has (suc ahead) e = omega arith

kind_behind : (o : OpenHunk) (k : Kind) → given_kind o k ≡ BehindEnd → Behind o k
kind_behind o kinds.Code e = record { some = some_ahead o.has_content o.ahead e; content = tt }
kind_behind o kinds.Data e = record { some = some_ahead o.has_content o.ahead e; content = tt }
kind_behind o kinds.Bss e = record { some = some_ahead o.has_content o.ahead e; content = tt }
kind_behind o _ e = absurd (cc e)

word_short : (o : OpenHunk) (x : ℕ) → given_block o x ≡ AsLong → IsTrue (is_short (kind x))
word_short o x e = go (has_both_bits x) e
  where
    go : (b : Bool) → cond b Same (given_kind o (kind x)) ≡ AsLong → IsTrue (is_short (kind x))
    go true e = absurd (cc e)
    go false e = kind_is_short o (kind x) e

word_behind : (o : OpenHunk) (x : ℕ) → given_block o x ≡ BehindEnd → (has_both_bits x ≡ false) × Behind o (kind x)
word_behind o x e = go (has_both_bits x) refl e
  where
    go : (b : Bool) → has_both_bits x ≡ b → cond b Same (given_kind o (kind x)) ≡ BehindEnd → (has_both_bits x ≡ false) × Behind o (kind x)
    go true f e = absurd (cc e)
    go false f e = (f, kind_behind o (kind x) e)

cells_bytes : (a b c d : ℕ) (rest : List ℕ) → IsBytes (a ∷ b ∷ c ∷ d ∷ rest) → (i : ℕ) → get_or (a ∷ b ∷ c ∷ d ∷ []) i 0 < 256
cells_bytes a b c d rest h zero = h 0
cells_bytes a b c d rest h (suc zero) = h 1
cells_bytes a b c d rest h (suc (suc zero)) = h 2
cells_bytes a b c d rest h (suc (suc (suc zero))) = h 3
cells_bytes a b c d rest h (suc (suc (suc (suc i)))) = omega arith

some_is : (n : ℕ) → 0 < n → (k : ℕ) × (n ≡ suc k)
some_is zero h = absurd (omega arith)
some_is (suc k) h = (k, refl)

both_true : (x y : Bool) → (x && y) ≡ true → y ≡ true
both_true true y e = e
both_true false y e = absurd (cc e)

-- Where END is put in, and after it the word of a content, which is given out as it is.
module _ (o : OpenHunk) (x : ℕ) (k : ℕ) (ahead : o.ahead ≡ suc k) (bits : has_both_bits x ≡ false) (content : IsContentKind (kind x)) where
  abbrev next_at : Position
  next_at = positions.Body (first o k) phases.FirstBlock

  opens : close o ≡ next_at
  opens = ap (open_next o.hunks) ahead

  same_there : given (files.Load next_at) x ≡ Same
  same_there = word_first (first o k) x refl bits content

  leads_there : behind_load next_at x ≡ go_on (files.Load (step (close o) x))
  leads_there = ap (λ (g : Given). behind_block g (first o k) phases.FirstBlock x) same_there ∙ ap (λ (p : Position). go_on (files.Load (step p x))) (sym opens)

module _ (o : OpenHunk) (a b c d : ℕ) (rest : List ℕ) (k : ℕ) (ahead : o.ahead ≡ suc k) where
  abbrev long : ℕ
  long = from_be_bytes w32 (a ∷ b ∷ c ∷ d ∷ [])

  next_gives : has_both_bits long ≡ false → IsContentKind (kind long)
      → plain_from (go_on (files.Load (close o))) (a ∷ b ∷ c ∷ d ∷ rest) ≡ (a ∷ b ∷ c ∷ d ∷ []) ++ plain_from (go_on (files.Load (step (close o) long))) rest
  unfolding plain_from
  next_gives bits content =
      ap (λ (p : Position). plain_from (go_on (files.Load p)) (a ∷ b ∷ c ∷ d ∷ rest)) (opens o long k ahead bits content)
      ∙ ap₂ (λ (g : Given) (s : Spot). out_long g (a ∷ b ∷ c ∷ d ∷ []) long ++ plain_from s rest) (same_there o long k ahead bits content) (leads_there o long k ahead bits content)

  next_counted : (f : Given → ℕ) (e : FilePosition → ℕ) → has_both_bits long ≡ false → IsContentKind (kind long)
      → counted f e (go_on (files.Load (close o))) (a ∷ b ∷ c ∷ d ∷ rest) ≡ f Same + counted f e (go_on (files.Load (step (close o) long))) rest
  unfolding counted
  next_counted f e bits content =
      ap (λ (p : Position). counted f e (go_on (files.Load p)) (a ∷ b ∷ c ∷ d ∷ rest)) (opens o long k ahead bits content)
      ∙ ap₂ (λ (g : Given) (s : Spot). f g + counted f e s rest) (same_there o long k ahead bits content) (leads_there o long k ahead bits content)

long_fits : (x : ℕ) → x < 2 ^ 32 → long_word x < 2 ^ 32
long_fits x h = omega arith

pub same_word : (v w : ℕ) (xs ys : List ℕ) → v < 2 ^ 32 → w < 2 ^ 32 → to_be_bytes w32 v ++ xs ≡ to_be_bytes w32 w ++ ys → v ≡ w
same_word v w xs ys fits_v fits_w e = sym (from_be_bytes-to_be_bytes_4 v fits_v) ∙ from_cells _ _ _ _ w xs ys fits_w e

module _ (o : OpenHunk) (phase : Phase) (given_is : (x : ℕ) → given (files.Load (positions.Body o phase)) x ≡ given_block o x)
    (behind_is : (x : ℕ) → behind_load (positions.Body o phase) x ≡ behind_block (given_block o x) o phase x)
    (ends_is : ends (files.Load (positions.Body o phase)) ≡ (o.has_content && eqb o.ahead 0)) (w : ℕ) (fits : w < 2 ^ 32) (more : List ℕ) where
  abbrev here : Spot
  here = Long (files.Load (positions.Body o phase))

  last_put : plain_from here [] ≡ to_be_bytes w32 w ++ more → WordComes o phase w [] more
  unfolding plain_from counted
  last_put e = go (o.has_content && eqb o.ahead 0) refl (ap (λ (b : Bool). cond b (to_be_bytes w32 end_word) []) (sym ends_is) ∙ e)
    where
      go : (b : Bool) → (o.has_content && eqb o.ahead 0) ≡ b → cond b (to_be_bytes w32 end_word) [] ≡ to_be_bytes w32 w ++ more → WordComes o phase w [] more
      go false f e = absurd (omega (arith, ap length e))
      go true f e =
          let none : o.ahead ≡ 0 = eqb-true o.ahead 0 (both_true o.has_content (eqb o.ahead 0) f) in
          let empty : more ≡ [] = sym (ap back4 e) in
          let put : one_if (ends (files.Load (positions.Body o phase))) ≡ 1 = ap one_if (ends_is ∙ f) in
          Put (sym (same_word end_word w [] more (omega arith) fits e)) (AtEnd none empty) (record {
            back = [];
            split = refl;
            gives = ap (λ (n : ℕ). plain_from (go_on (files.Load (open_next o.hunks n))) []) none ∙ sym empty;
            shorts_are = omega (arith, ap (λ (n : ℕ). short_blocks_from (go_on (files.Load (open_next o.hunks n))) []) none);
            ends_are = omega (arith, put, ap (λ (n : ℕ). ends_from (go_on (files.Load (open_next o.hunks n))) []) none);
          })

  module _ (a b c d : ℕ) (rest : List ℕ) (bytes : IsBytes (a ∷ b ∷ c ∷ d ∷ rest)) where
    abbrev x : ℕ
    x = from_be_bytes w32 (a ∷ b ∷ c ∷ d ∷ [])

    abbrev input : List ℕ
    input = a ∷ b ∷ c ∷ d ∷ rest

    counts_by : (f : Given → ℕ) (e : FilePosition → ℕ) (g : Given) → given_block o x ≡ g → counted f e here input ≡ f g + counted f e (behind_block g o phase x) rest
    unfolding counted
    counts_by f e g same = ap₂ (λ (y : Given) (s : Spot). f y + counted f e s rest) (given_is x ∙ same) (behind_is x ∙ ap (λ (y : Given). behind_block y o phase x) same)

    cells_come : (g : Given) → given_block o x ≡ g → out_long g (a ∷ b ∷ c ∷ d ∷ []) x ++ plain_from (behind_block g o phase x) rest ≡ to_be_bytes w32 w ++ more → WordComes o phase w input more
    cells_come Same same e =
        let word : x ≡ w = from_cells a b c d w (plain_from (behind_block Same o phase x) rest) more fits e in
        let to : go_on (files.Load (step (positions.Body o phase) x)) ≡ go_on (files.Load (step (positions.Body o phase) w)) = ap (λ (n : ℕ). go_on (files.Load (step (positions.Body o phase) n))) word in
        Kept (record {
          back = rest;
          split = ap (λ (l : List ℕ). l ++ rest) (ap front4 e);
          gives = ap (λ (s : Spot). plain_from s rest) (sym to) ∙ ap back4 e;
          shorts_are = counts_by _ _ Same same ∙ ap (λ (s : Spot). 0 + short_blocks_from s rest) to;
          ends_are = counts_by _ _ Same same ∙ ap (λ (s : Spot). 0 + ends_from s rest) to;
        })
    cells_come AsLong same e =
        let x_bytes : to_be_bytes w32 x ≡ a ∷ b ∷ c ∷ d ∷ [] = be_bytes_4 (a ∷ b ∷ c ∷ d ∷ []) x refl (cells_bytes a b c d rest bytes) refl in
        let x_fits : x < 2 ^ 32 = cells_fit in
        Short x x_fits (word_short o x same) (sym (same_word (long_word x) w (plain_from (behind_block AsLong o phase x) rest) more (long_fits x x_fits) fits e)) (record {
          back = rest;
          split = ap (λ (l : List ℕ). l ++ rest) (sym x_bytes);
          gives = ap back4 e;
          shorts_are = counts_by _ _ AsLong same;
          ends_are = counts_by _ _ AsLong same;
        })
      where
        cells_fit : x < 2 ^ 32
        cells_fit = omega (arith, bytes 0, bytes 1, bytes 2, bytes 3)
    cells_come BehindEnd same e =
        let said = word_behind o x same in
        let some = some_is o.ahead said.1.some in
        let given_after : more ≡ (a ∷ b ∷ c ∷ d ∷ []) ++ plain_from (go_on (files.Load (step (close o) x))) rest = sym (ap back4 e) in
        Put (sym (same_word end_word w ((a ∷ b ∷ c ∷ d ∷ []) ++ plain_from (behind_block BehindEnd o phase x) rest) more (omega arith) fits e))
        (AtNext said.1.some a b c d (plain_from (go_on (files.Load (step (close o) x))) rest) given_after said.1.content) (record {
          back = input;
          split = refl;
          gives = next_gives o a b c d rest some.0 some.1 said.0 said.1.content ∙ sym given_after;
          shorts_are = omega (arith, counts_by (λ g. one_if (spellings.is_short g)) (λ p. 0) BehindEnd same, next_counted o a b c d rest some.0 some.1 (λ g. one_if (spellings.is_short g)) (λ p. 0) said.0 said.1.content);
          ends_are = omega (arith, counts_by (λ g. one_if (has_end g)) (λ p. one_if (ends p)) BehindEnd same, next_counted o a b c d rest some.0 some.1 (λ g. one_if (has_end g)) (λ p. one_if (ends p)) said.0 said.1.content);
        })

  word_from : (input : List ℕ) → IsBytes input → plain_from here input ≡ to_be_bytes w32 w ++ more → WordComes o phase w input more
  unfolding plain_from
  word_from [] bytes e = last_put e
  word_from (a ∷ []) bytes e = absurd (omega (arith, ap length e))
  word_from (a ∷ b ∷ []) bytes e = absurd (omega (arith, ap length e))
  word_from (a ∷ b ∷ c ∷ []) bytes e = absurd (omega (arith, ap length e))
  word_from (a ∷ b ∷ c ∷ d ∷ rest) bytes e =
      let n : ℕ = from_be_bytes w32 (a ∷ b ∷ c ∷ d ∷ []) in
      cells_come a b c d rest bytes (given_block o n) refl
      (sym (ap₂ (λ (g : Given) (s : Spot). out_long g (a ∷ b ∷ c ∷ d ∷ []) n ++ plain_from s rest) (given_is n) (behind_is n)) ∙ e)

pub first_word_from : (o : OpenHunk) (w : ℕ) (more input : List ℕ) → w < 2 ^ 32 → IsBytes input
    → plain_from (Long (files.Load (positions.Body o phases.FirstBlock))) input ≡ to_be_bytes w32 w ++ more → WordComes o phases.FirstBlock w input more
first_word_from o w more input fits bytes e = word_from o phases.FirstBlock (λ x. refl) (λ x. refl) refl w fits more input bytes e

pub block_word_from : (o : OpenHunk) (w : ℕ) (more input : List ℕ) → w < 2 ^ 32 → IsBytes input
    → plain_from (Long (files.Load (positions.Body o phases.BlockWord))) input ≡ to_be_bytes w32 w ++ more → WordComes o phases.BlockWord w input more
block_word_from o w more input fits bytes e = word_from o phases.BlockWord (λ x. refl) (λ x. refl) refl w fits more input bytes e
