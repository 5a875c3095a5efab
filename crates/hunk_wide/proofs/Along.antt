-- Longwords of a load file are given out as they are.
use Rattle.std.proofs.Common.{rules, ◌≡◌, ℕ, ◌^◌, ◌<◌, Bool, true, false, ◌&&◌, cond, ltb, eqb, List, [], ◌∷◌, ◌++◌, refl, ap, ap₂, ◌∙◌, Some, None, arith}
use Rattle.std.specs.Int.{to_be_bytes, w32}
use Rattle.hunk_words.specs.declared.block_word.Kind.{Kind}
use Rattle.hunk_words.specs.declared.block_word.Kind.TheVariants as kinds
use Rattle.hunk_words.specs.declared.reason.Reason.TheVariants as reasons
use Rattle.hunk_words.specs.{Bits.{has_both_bits, is_advisory, kind}, Longs.bytes_of}
use Rattle.hunk_blocks.specs.AlongText.{GoesAlong}
use Rattle.hunk_blocks.specs.Faults.{words}
use Rattle.hunk_grammar.specs.declared.phase.Phase.TheVariants as phases
use Rattle.hunk_grammar.specs.declared.position.OpenHunk.{OpenHunk}
use Rattle.hunk_grammar.specs.declared.position.Position.{Position}
use Rattle.hunk_grammar.specs.declared.position.Position.TheVariants as positions
use Rattle.hunk_wide.specs.declared.position.FilePosition.TheVariants as files
use Rattle.hunk_grammar.specs.Positions.{role_at, step}
use Rattle.hunk_grammar.specs.Roles.{refuse, refuse_kind, refuse_word, Role as roles}
use Rattle.hunk_files.specs.{LoadFile.{LoadFileValue, IsLoadFile}, LoadText.{labelled, text}}
use Rattle.hunk_files.specs.{Machines.{longs_of, refuse_in_load}, WordsRead.{AreAccepted, Labelled}}
use Rattle.hunk_files.proofs.walk.{Accepted.labelled_accepted, Machines.load_along}
use Rattle.hunk_wide.specs.declared.spot.Spot.{Spot}
use Rattle.hunk_wide.specs.declared.spot.Spot.TheVariants.{Long}
use Rattle.hunk_wide.specs.declared.spot.Given.{Given}
use Rattle.hunk_wide.specs.declared.spot.Given.TheVariants.{Same, BehindEnd}
use Rattle.hunk_wide.specs.Longwords.{behind_block, behind_load, given, given_block, given_kind, go_on, out_long}
use Rattle.hunk_wide.specs.Plain.{plain, plain_from}
use Rattle.hunk_wide.proofs.{Straight.straight_goes, Cells.long_cells}

content_same : (has : Bool) (ahead : ℕ) → cond has (Some reasons.SecondContent) None ≡ None → cond (has && ltb 0 ahead) BehindEnd Same ≡ Same
content_same true ahead h = absurd cc
content_same false ahead h = refl

kind_same : (o : OpenHunk) (advisory : Bool) (k : Kind) → refuse_kind o.has_content advisory k ≡ None → given_kind o k ≡ Same
kind_same o advisory kinds.Reloc32Short h = absurd cc
kind_same o advisory kinds.Drel32 h = absurd cc
kind_same o advisory kinds.Code h = content_same o.has_content o.ahead h
kind_same o advisory kinds.Data h = content_same o.has_content o.ahead h
kind_same o advisory kinds.Bss h = content_same o.has_content o.ahead h
kind_same o advisory _ h = refl

word_same : (o : OpenHunk) (w : ℕ) → refuse_word o.has_content w ≡ None → given_block o w ≡ Same
word_same o w = go (has_both_bits w)
  where
    go : (b : Bool) → cond b (Some reasons.BothBits) (refuse_kind o.has_content (is_advisory w) (kind w)) ≡ None → cond b Same (given_kind o (kind w)) ≡ Same
    go true h = refl
    go false h = kind_same o (is_advisory w) (kind w) h

-- What is not refused is given out as it is.
given_same : (longs : ℕ) (p : Position) (w : ℕ) → refuse (role_at longs p) w ≡ None → given (files.Load p) w ≡ Same
given_same longs (positions.Body o phases.FirstBlock) w h = word_same o w h
given_same longs (positions.Body o phases.BlockWord) w h = word_same o w h
given_same longs (positions.Body o _) w h = refl
given_same longs _ w h = refl

header_is : (w : ℕ) → refuse roles.FirstLong w ≡ None → eqb w 0x3F3 ≡ true
header_is w h = search rules

pub step_same : (longs : ℕ) (p : Position) (w : ℕ) → refuse (role_at longs p) w ≡ None → behind_load p w ≡ go_on (files.Load (step p w))
step_same longs positions.FirstLong w h = rw (header_is w h) refl
step_same longs (positions.Body o phases.FirstBlock) w h = ap (λ (g : Given). behind_block g o phases.FirstBlock w) (word_same o w h)
step_same longs (positions.Body o phases.BlockWord) w h = ap (λ (g : Given). behind_block g o phases.BlockWord w) (word_same o w h)
step_same longs (positions.Body o _) w h = refl
step_same longs _ w h = refl

long_same : (longs : ℕ) (p : Position) (w : ℕ) (more : List ℕ) → w < 2 ^ 32 → refuse (role_at longs p) w ≡ None →
    plain_from (Long (files.Load p)) (to_be_bytes w32 w ++ more) ≡ to_be_bytes w32 w ++ plain_from (go_on (files.Load (step p w))) more
long_same longs p w more fits h =
    long_cells (files.Load p) w more fits
    ∙ ap₂ (λ (g : Given) (s : Spot). out_long g (to_be_bytes w32 w) w ++ plain_from s more) (given_same longs p w h) (step_same longs p w h)

pub one_long : (longs : ℕ) (p : Position) (w : ℕ) (more : List ℕ) → w < 2 ^ 32 → refuse (role_at longs p) w ≡ None →
    plain_from (go_on (files.Load p)) (to_be_bytes w32 w ++ more) ≡ to_be_bytes w32 w ++ plain_from (go_on (files.Load (step p w))) more
unfolding plain_from
one_long longs positions.Done w more fits h = refl
one_long longs (positions.Body o (phases.Content l owed)) w more fits h = straight_goes o (phases.Content l owed) w more (omega arith)
one_long longs (positions.Body o (phases.Payload owed)) w more fits h = straight_goes o (phases.Payload owed) w more (omega arith)
one_long longs (positions.Body o (phases.Symbol owed)) w more fits h = straight_goes o (phases.Symbol owed) w more (omega arith)
one_long longs (positions.Body o (phases.ExtFront owed)) w more fits h = straight_goes o (phases.ExtFront owed) w more (omega arith)
one_long longs (positions.Body o (phases.ExtRest owed)) w more fits h = straight_goes o (phases.ExtRest owed) w more (omega arith)
one_long longs (positions.Body o (phases.Offset t owed)) w more fits h = straight_goes o (phases.Offset t owed) w more (omega arith)
one_long longs (positions.Body o phase) w more fits h = long_same longs (positions.Body o phase) w more fits h
one_long longs p w more fits h = long_same longs p w more fits h

-- The longwords of a text are given out as they are.
pub along_plain : (p q : Position) (ls : Labelled) (more : List ℕ) → GoesAlong refuse_in_load refuse step p ls q → AreAccepted ls →
    plain_from (go_on (files.Load p)) (bytes_of (words ls) ++ more) ≡ bytes_of (words ls) ++ plain_from (go_on (files.Load q)) more
unfolding bytes_of
along_plain p q [] more h ok = ap (λ (x : Position). plain_from (go_on (files.Load x)) more) h
along_plain p q (l ∷ ls) more h ok =
    one_long (longs_of l.0) p l.1 (bytes_of (words ls) ++ more) ok.0.0 (h.0 l.1 ∙ ok.0.1)
    ∙ ap (λ (x : List ℕ). to_be_bytes w32 l.1 ++ x) (along_plain (step p l.1) q ls more h.1 ok.1)

-- A plain text is its own plain spelling.
pub plain_stays : (v : LoadFileValue) (rest : List ℕ) → IsLoadFile v → plain (bytes_of (text v) ++ rest) ≡ bytes_of (text v) ++ rest
unfolding plain_from
plain_stays v rest is = along_plain positions.FirstLong positions.Done (labelled v) rest (load_along v is) (labelled_accepted v is)
