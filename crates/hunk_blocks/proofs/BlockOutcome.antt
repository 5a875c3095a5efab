-- Bytes begin with a block of the mode or have a fault.
use Rattle.std.proofs.Common.{rules, ◌≡◌, ℕ, ◌*◌, List, [], ◌∷◌, ◌++◌, length, refl, sym, ap, subst, ◌∙◌, append_assoc, append-nil, Option, Some, None, ◌⊎◌, inl, inr}
use Rattle.hunk_words.specs.{declared.reason.Reason.Reason, Bits.kind, Longs.{longs, IsLong, IsBytes}}
use Rattle.hunk_words.specs.declared.reason.Reason.TheVariants as reasons
use Rattle.hunk_words.proofs.LongLaws.{longs_fit}
use Rattle.hunk_grammar.specs.declared.mode.Mode.{Mode}
use Rattle.hunk_blocks.specs.Values.{BlockBody, BlockValue, FitsWord, IsBlock}
use Rattle.hunk_grammar.specs.{BlockParts.{Part, Part as parts}, Modes.{refuse_inside, refuse_alone_word}}
use Rattle.hunk_blocks.specs.{Parts.{body_parts, block_parts, block_text}, Modes.IsOfMode}
use Rattle.hunk_blocks.specs.{Begins.{BeginsWithBlock, BeginsWithNoBlock}, Faults.{words, Expects, IsFront, refuse_alone, blocks, HasBlockFault}}
use Rattle.hunk_blocks.specs.BlockSteps.{Inside, BlockNext, Open, Whole, part_of, step_inside, begin_body, Follows}
use Rattle.hunk_blocks.proofs.{Admitted.block, BlockCompletion.{completes, run_fits}, BlockLongs.block_longs, BlockPrefix.block_prefix}
use Rattle.hunk_blocks.proofs.BlockProgress.{read_inside, read_next, NextFits, step_fits, step_reads}
use Rattle.hunk_blocks.proofs.OneBlockFault.{Alone, AtWord, After, alone, block_reads, alone_inside, part_not_word}
use Rattle.hunk_blocks.proofs.Outcomes.{Keeps, state_after, front, judged, completed}
use Rattle.hunk_blocks.proofs.{BodyFaults.expects_word, Decoding.{front_bytes, no_block}, FaultLaws.words-append, Lists.not_nil}

-- ---- what is read so far

-- a block word that is not refused, and what fits after it
pub record Inner (mode : Mode) (n : BlockNext) (word : ℕ) (ws : List ℕ) : Type 0 where
  pub fits : IsLong word
  pub ok : refuse_alone_word mode word ≡ None
  pub inside : NextFits word n
  pub words_are : ws ≡ word ∷ words (read_next n)

module _ (mode : Mode) where
  abbrev pub SoFar : Alone → List ℕ → Type 0
  SoFar AtWord ws = ws ≡ []
  SoFar (After n) ws = (word : ℕ) × Inner mode n word ws

  -- a word and a body that fits it
  pub block_is : (word : ℕ) (b : BlockBody) → IsLong word → refuse_alone_word mode word ≡ None → FitsWord word b → IsBlock (block word b) × IsOfMode mode (block word b)
  block_is word b l ok fits = search rules

  pub expects_inside : (x : Inside) (word : ℕ) (ws : List ℕ) → Inner mode (Open x) word ws → Expects (blocks mode) ws (part_of x)
  expects_inside x word ws h = let c = completes x in go c.parts c.body c.follows (run_fits word (Open x) c.parts c.body h.inside c.go c.follows)
    where
      go : (ps : List (Part × ℕ)) (b : BlockBody) → Follows (Open x) ps (Whole b) → FitsWord word b × (body_parts b ≡ read_inside x ++ ps) → Expects (blocks mode) ws (part_of x)
      go [] b follows k = absurd cc
      go (p ∷ ps) b follows k =
          let part : ◌≡◌ {A = Part × ℕ} p (part_of x, p.1) = λ i. (sym follows.0 i, p.1) in
          record {
            value = block word b;
            is = block_is word b h.fits h.ok k.0;
            done = (parts.BlockWord, word) ∷ read_inside x;
            word = p.1;
            more = ps;
            labels = ap (λ l. (parts.BlockWord, word) ∷ l) (k.1 ∙ ap (λ (q : Part × ℕ). read_inside x ++ q ∷ ps) part);
            begins = sym h.words_are;
          }

  pub steps_inside : (x : Inside) (word : ℕ) (ws : List ℕ) (w : ℕ) → Inner mode (Open x) word ws → IsLong w → refuse_inside (part_of x) w ≡ None → Inner mode (step_inside x w) word (ws ++ w ∷ [])
  steps_inside x word ws w h l ok = search (rules, step_fits, words-append, step_reads)

  pub begins_inside : (w : ℕ) → IsLong w → refuse_alone_word mode w ≡ None → Inner mode (begin_body (kind w)) w (w ∷ [])
  begins_inside w l ok = search rules

  unfoldable pub keeps : Keeps (blocks mode) alone
  keeps = record { SoFar = SoFar; begins = refl; expects = expected; goes_on = go; ends = ended }
    where
      expected : (s : Alone) (before : List ℕ) (role : Part) → SoFar s before → alone.expects s ≡ Some role → Expects (blocks mode) before role
      expected AtWord before role h e =
          let same : parts.BlockWord ≡ role = cc in
          subst (Expects (blocks mode) before) same (subst (λ ws. Expects (blocks mode) ws parts.BlockWord) (sym h) (expects_word mode))
      expected (After (Open x)) before role h e =
          let same : part_of x ≡ role = cc in
          subst (Expects (blocks mode) before) same (expects_inside x h.0 before h.1)
      expected (After (Whole b)) before role h e = absurd cc

      go : (s : Alone) (before : List ℕ) (role : Part) (w : ℕ) → SoFar s before → alone.expects s ≡ Some role → IsLong w → refuse_alone mode role w ≡ None → SoFar (alone.step s w) (before ++ w ∷ [])
      go AtWord before role w h e l ok =
          let same : parts.BlockWord ≡ role = cc in
          (w, subst (λ ws. Inner mode (begin_body (kind w)) w (ws ++ w ∷ [])) (sym h) (begins_inside w l (ap (λ (r : Part). refuse_alone mode r w) same ∙ ok)))
      go (After (Open x)) before role w h e l ok =
          let same : part_of x ≡ role = cc in
          (h.0, steps_inside x h.0 before w h.1 l (sym (alone_inside mode (part_of x) w (part_not_word x)) ∙ ap (λ (r : Part). refuse_alone mode r w) same ∙ ok))
      go (After (Whole b)) before role w h e l ok = absurd cc

      ended : (s : Alone) (before : List ℕ) → SoFar s before → alone.expects s ≡ None → (v : BlockValue) × (IsBlock v × IsOfMode mode v) × (words (block_parts v) ≡ before)
      ended AtWord before h e = absurd cc
      ended (After (Open x)) before h e = absurd cc
      ended (After (Whole b)) before h e = (block h.0 b, block_is h.0 b h.1.fits h.1.ok h.1.inside, sym h.1.words_are)

-- ---- the laws

Begun : Mode → List ℕ → Type 0
Begun mode bytes = (b : BlockValue) × (n : ℕ) × BeginsWithBlock mode bytes b n

begun : (mode : Mode) (bytes : List ℕ) (b : BlockValue) (rest : List ℕ) → IsBytes bytes → IsBlock b → IsOfMode mode b → longs bytes ≡ block_text b ++ rest → Begun mode bytes
unfolding Begun
begun mode bytes b rest fit is m e =
    let f = front_bytes bytes (block_text b) rest fit e in
    (b, 4 * length (block_text b), record { block = is; of_mode = m; text = f.0; whole = f.1 })

-- Where a block goes on, none begins.
pub goes_on_none : (mode : Mode) (bytes : List ℕ) (role : Part) → Expects (blocks mode) (longs bytes) role → BeginsWithNoBlock mode bytes
goes_on_none mode bytes role e =
    no_block mode bytes
    (λ b is m more split.
    let left : List ℕ = e.word ∷ words e.more in
    let all : block_text e.value ≡ longs bytes ++ left = ap words e.labels ∙ words-append e.done ((role, e.word) ∷ e.more) ∙ ap (λ ws. ws ++ left) e.begins in
    let p = block_prefix b e.value (more ++ left) is e.is.0 (sym (append_assoc (block_text b) more left) ∙ ap (λ ws. ws ++ left) (sym split) ∙ sym all) in
    not_nil more e.word (words e.more) p.1)

pub some_outcome : (mode : Mode) (bytes : List ℕ) → IsBytes bytes → ((b : BlockValue) × (n : ℕ) × BeginsWithBlock mode bytes b n) ⊎ ((at : ℕ) × (reason : Reason) × HasBlockFault mode bytes at reason)
unfolding Begun keeps
some_outcome mode bytes fit = elim (judged (blocks mode) alone (keeps mode) (longs bytes) (longs_fit bytes fit)) [
  | inl h ↦ inl (begun mode bytes h.value h.rest fit h.is.0 h.is.1 h.split)
  | inr (inl h) ↦ inr (h.at, h.reason, inl h.refusal)
  | inr (inr h) ↦ all_read (state_after alone AtWord (longs bytes)) h (alone.expects (state_after alone AtWord (longs bytes))) refl
]
  where
    all_read : (s : Alone) → SoFar mode s (longs bytes) → (o : Option Part) → alone.expects s ≡ o → Begun mode bytes ⊎ ((at : ℕ) × (reason : Reason) × HasBlockFault mode bytes at reason)
    all_read s h (Some role) e =
        let x = (keeps mode).expects s (longs bytes) role h e in
        inr (4 * length (longs bytes), reasons.Truncated, inr (refl, record { place = refl; not_whole = goes_on_none mode bytes role x; front = front (blocks mode) alone (keeps mode) s (longs bytes) h }))
    all_read s h None e =
        let v = (keeps mode).ends s (longs bytes) h e in
        inl (begun mode bytes v.0 [] fit v.1.0 v.1.1 (sym v.2 ∙ sym (append-nil (words (block_parts v.0)))))

-- An accepted longword goes on.
pub word_goes_on : (mode : Mode) (before : List ℕ) (role : Part) (w : ℕ) → Expects (blocks mode) before role → IsLong w → refuse_alone mode role w ≡ None → IsFront (blocks mode) (before ++ w ∷ [])
word_goes_on mode = completed (blocks mode) alone (keeps mode) (block_reads mode) (λ b h. block_longs b h.0)
