-- Where the machine stands after longwords, and which of its positions are those of block words.
use Rattle.std.proofs.Common.{◌≡◌, ◌≢◌, ℕ, suc, ◌+◌, ◌*◌, Bool, true, false, cond, eqb, ltb, List, [], ◌∷◌, ◌++◌, length, refl, sym, ap, ◌∙◌, Option, Some, None}
use Rattle.std.specs.List.{flat_map, AllByRecursion}
use Rattle.hunk_words.specs.Bits.{kind}
use Rattle.hunk_words.specs.declared.block_word.Kind.{Kind}
use Rattle.hunk_words.specs.declared.block_word.Kind.TheVariants as kinds
use Rattle.hunk_words.specs.declared.reason.Reason.{Reason}
use Rattle.hunk_words.specs.declared.reason.Reason.TheVariants as reasons
use Rattle.hunk_blocks.specs.AlongText.{GoesAlong}
use Rattle.hunk_blocks.specs.Faults.{words}
use Rattle.hunk_blocks.specs.{Parts.{group_text, list_text}, Values.{RelocGroup, IsGroup}}
use Rattle.hunk_blocks.proofs.PartTexts.{group_text_is}
use Rattle.hunk_grammar.specs.declared.phase.Phase.{Phase}
use Rattle.hunk_grammar.specs.declared.phase.Phase.TheVariants as phases
use Rattle.hunk_grammar.specs.PhaseSteps as inside
use Rattle.hunk_grammar.specs.declared.position.OpenHunk.{OpenHunk}
use Rattle.hunk_grammar.specs.declared.position.Position.{Position}
use Rattle.hunk_grammar.specs.declared.position.Position.TheVariants as positions
use Rattle.hunk_grammar.specs.Positions.{at, close, onward, step}
use Rattle.hunk_grammar.specs.BlockParts.{Part as parts}
use Rattle.hunk_grammar.specs.Roles.{Place, InBlock, refuse, refuse_word}
use Rattle.hunk_files.specs.{Machines.{leads_to, refuse_in_load}, WordsRead.Labelled}

-- ---- in a file of either kind

module _ {Pos Role : Type 0} (test : Role → Pos → ℕ → Option Reason) (tells : Role → ℕ → Option Reason) (goes : Pos → ℕ → Pos) where
  pub goes_run : (p q : Pos) (ls : List (Role × ℕ)) → GoesAlong test tells goes p ls q → leads_to goes p (words ls) ≡ q
  goes_run p q [] h = h
  goes_run p q (l ∷ ls) h = goes_run (goes p l.1) q ls h.1

  pub goes_split : (p q : Pos) (ls ms : List (Role × ℕ)) → GoesAlong test tells goes p (ls ++ ms) q → (r : Pos) × GoesAlong test tells goes p ls r × GoesAlong test tells goes r ms q
  goes_split p q [] ms h = (p, refl, h)
  goes_split p q (l ∷ ls) ms h = let k = goes_split (goes p l.1) q ls ms h.1 in (k.0, (h.0, k.1), k.2)

-- Over the numbers of a RELOC32 block, by the steps of its phases.
module _ {Pos : Type 0} (goes : Pos → ℕ → Pos) (in_block : Phase → Pos) (after : Pos) (ends : goes (in_block phases.GroupCount) 0 ≡ after)
    (counts : (n : ℕ) → goes (in_block phases.GroupCount) (suc n) ≡ in_block (phases.Target n)) (aims : (n t : ℕ) → goes (in_block (phases.Target n)) t ≡ in_block (phases.Offset t n))
    (last : (t w : ℕ) → goes (in_block (phases.Offset t 0)) w ≡ in_block phases.GroupCount) (more : (t n w : ℕ) → goes (in_block (phases.Offset t (suc n))) w ≡ in_block (phases.Offset t n)) where
  abbrev to : Pos → List ℕ → Pos
  to p ws = leads_to goes p ws

  to-append : (p : Pos) (xs ys : List ℕ) → to p (xs ++ ys) ≡ to (to p xs) ys
  to-append p [] ys = refl
  to-append p (x ∷ xs) ys = to-append (goes p x) xs ys

  run_offsets : (t n : ℕ) (ns : List ℕ) → to (in_block (phases.Offset t (length ns))) (n ∷ ns) ≡ in_block phases.GroupCount
  run_offsets t n [] = last t n
  run_offsets t n (m ∷ ns) = ap (λ (p : Pos). to p (m ∷ ns)) (more t (length ns) n) ∙ run_offsets t m ns

  run_numbers : (t : ℕ) (ns : List ℕ) → ns ≢ [] → to (in_block phases.GroupCount) (length ns ∷ t ∷ ns) ≡ in_block phases.GroupCount
  run_numbers t [] some = absurd (some refl)
  run_numbers t (n ∷ ns) some =
      ap (λ (p : Pos). to p (t ∷ n ∷ ns)) (counts (length ns)) ∙ ap (λ (p : Pos). to p (n ∷ ns)) (aims (length ns) t) ∙ run_offsets t n ns

  run_groups : (gs : List RelocGroup) → AllByRecursion IsGroup gs → to (in_block phases.GroupCount) (flat_map group_text gs) ≡ in_block phases.GroupCount
  run_groups [] h = refl
  run_groups (g ∷ gs) h =
      to-append (in_block phases.GroupCount) (group_text g) (flat_map group_text gs)
      ∙ ap (λ (p : Pos). to p (flat_map group_text gs)) (ap (to (in_block phases.GroupCount)) (group_text_is g) ∙ run_numbers g.target g.offsets h.0.some)
      ∙ run_groups gs h.1

  pub groups_run : (gs : List RelocGroup) → AllByRecursion IsGroup gs → to (in_block phases.GroupCount) (list_text group_text gs) ≡ after
  groups_run gs h =
      to-append (in_block phases.GroupCount) (flat_map group_text gs) (0 ∷ [])
      ∙ ap (λ (p : Pos). to p (0 ∷ [])) (run_groups gs h) ∙ ends

-- ---- in a load file

abbrev pub run : Position → List ℕ → Position
run p ws = leads_to step p ws

abbrev pub Along : Position → Labelled → Position → Type 0
Along p ls q = GoesAlong refuse_in_load refuse step p ls q

pub along_run : (p q : Position) (ls : Labelled) → Along p ls q → run p (words ls) ≡ q
along_run p q ls h = goes_run refuse_in_load refuse step p q ls h

pub along_split : (p q : Position) (ls ms : Labelled) → Along p (ls ++ ms) q → (r : Position) × Along p ls r × Along r ms q
along_split p q ls ms h = goes_split refuse_in_load refuse step p q ls ms h

module _ (o : OpenHunk) where
  pub run_list : (gs : List RelocGroup) → AllByRecursion IsGroup gs → run (at o phases.GroupCount) (list_text group_text gs) ≡ at o phases.BlockWord
  run_list gs h = groups_run step (at o) (at o phases.BlockWord) refl (λ n. refl) (λ n t. refl) (λ t w. refl) (λ t n w. refl) gs h

  pub word_begins : (w : ℕ) → kind w ≡ kinds.Reloc32 → onward o (close o) (inside.begin (kind w)) ≡ at o phases.GroupCount
  word_begins w e = ap (λ (k : Kind). onward o (close o) (inside.begin k)) e

-- ---- at a block word

-- A block word comes next, in a hunk that has its content or not.
abbrev pub AtBlock : Bool → Position → Type 0
AtBlock has (positions.Body o phases.FirstBlock) = o.has_content ≡ has
AtBlock has (positions.Body o phases.BlockWord) = o.has_content ≡ has
AtBlock has _ = ⊥

pub neither : (b : Bool) (x y z : Option Reason) → x ≢ z → y ≢ z → cond b x y ≢ z
neither true x y z f g = f
neither false x y z f g = g

same_flag : (a b : Bool) → cond a (Some reasons.SecondContent) None ≡ cond b (Some reasons.SecondContent) None → a ≡ b
same_flag true true h = refl
same_flag false false h = refl
same_flag true false h = absurd cc
same_flag false true h = absurd cc

code_says : (has : Bool) → refuse_word has 0x3E9 ≡ cond has (Some reasons.SecondContent) None
unfolding kind
code_says has = refl

short_says : (has : Bool) → refuse_word has 0x3FC ≡ Some reasons.ShortReloc
unfolding kind
short_says has = refl

-- What refuses block words as this place does is at one.
pub at_block : (p : Position) (place : Place) → ((w : ℕ) → refuse_in_load (InBlock place parts.BlockWord) p w ≡ refuse (InBlock place parts.BlockWord) w) → AtBlock place.has_content p
at_block (positions.Body o phases.FirstBlock) place h = same_flag o.has_content place.has_content (sym (code_says o.has_content) ∙ h 0x3E9 ∙ code_says place.has_content)
at_block (positions.Body o phases.BlockWord) place h = same_flag o.has_content place.has_content (sym (code_says o.has_content) ∙ h 0x3E9 ∙ code_says place.has_content)
at_block (positions.LastHunk hunks) place h =
    absurd (neither (eqb (0x3FC + 1) hunks) None (Some reasons.LastHunk) (Some reasons.ShortReloc) (λ e. cc) (λ e. cc) (h 0x3FC ∙ short_says place.has_content))
at_block (positions.Body o phases.ContentSize) place h =
    absurd (neither (ltb place.longs 0x3FC) (Some reasons.ContentTooLong) None (Some reasons.ShortReloc) (λ e. cc) (λ e. cc) (h 0x3FC ∙ short_says place.has_content))
at_block (positions.Body o phases.BssSize) place h =
    absurd (neither (ltb place.longs 0x3FC) (Some reasons.ContentTooLong) None (Some reasons.ShortReloc) (λ e. cc) (λ e. cc) (h 0x3FC ∙ short_says place.has_content))
at_block (positions.Body o phases.GroupCount) place h =
    absurd (neither (eqb place.longs 0) (Some reasons.NothingToRelocate) None (Some reasons.ShortReloc) (λ e. cc) (λ e. cc) (h 0x3FC ∙ short_says place.has_content))
at_block (positions.Body o (phases.Target owed)) place h =
    absurd (neither (ltb 0x3FC o.hunks) None (Some reasons.BadTarget) (Some reasons.ShortReloc) (λ e. cc) (λ e. cc) (h 0x3FC ∙ short_says place.has_content))
at_block (positions.Body o (phases.Offset target owed)) place h =
    absurd (neither (ltb (4 * place.longs) (0x3FC + 4)) (Some reasons.BadOffset) None (Some reasons.ShortReloc) (λ e. cc) (λ e. cc) (h 0x3FC ∙ short_says place.has_content))
at_block (positions.Body o _) place h = let e = h 0x3FC ∙ short_says place.has_content in absurd (cc e)
at_block _ place h = let e = h 0x3FC ∙ short_says place.has_content in absurd (cc e)
