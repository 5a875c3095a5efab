use Rattle.std.proofs.Common.{◌≡◌, ◌+◌, List, false, take, drop, refl, sym, ap, subst, ◌∙◌, inr, Some}
use Rattle.hunk_grammar.specs.Standings.{is_ending}
use Rattle.hunk_blocks.specs.{declared.body_view.BodyView.BodyView, BodyViews.viewed, Begins.IsFrontBlock}
use Rattle.hunk_blocks.specs.{Parts.block_text, Placed.Placed, Values.{BlockBody, BlockValue}}
use Rattle.hunk_blocks.specs.declared.body_view.BodyView.TheVariants as bodies
use Rattle.hunk_files.specs.{InPlace.GivesPart, LoadFile.standing}
use Rattle.hunk_files.proofs.views.BlocksInPlace.{first_begins, gives_last, gives_next, more_begin, none_seen, seen, some_seen}
use Rattle.hunk_files.proofs.views.PartsInTurn.{part_less}
use Rattle.hunk_files.proofs.blocks.BlockViewsIterator.next.Goals as goal
use Rattle.hunk_files.proofs.blocks.BlockViewsIterator.next.Goals.{in-End, in_default}

pub returns-then-self-clause-steps : goal.returns-then-self-clause-steps
returns-then-self-clause-steps c = (ap (λ (p : Placed (List BlockValue)). p.value) (sym c.self.view_is) ∙ none_seen c.self.inside.bytes.now c.self.inside.at c.if-self.true, refl)

pub at-block-requires : goal.at-block-requires
at-block-requires c =
    let bytes = c.self.inside.bytes.now in
    let at = c.self.inside.at in
    first_begins bytes at (some_seen bytes at c.self.invariant c.if-self.false)

-- No other block ends the hunk.
ends_not : {view : BodyView} {body : BlockBody} → viewed view ≡ body → (view ≡ bodies.End → ⊥) → is_ending (standing body) ≡ false
ends_not {view} is other = subst (λ (b : BlockBody). is_ending (standing b) ≡ false) is (no_end view other)
  where
    no_end : (b : BodyView) → (b ≡ bodies.End → ⊥) → is_ending (standing (viewed b)) ≡ false
    no_end bodies.End h = absurd (h refl)
    no_end _ h = refl

pub invariant_of-self-in_default : goal.invariant_of-self-in_default
invariant_of-self-in_default c =
    let bytes = c.self.inside.bytes.now in
    let at = c.self.inside.at in
    let x = c.at-block.result.value in
    let front = subst (IsFrontBlock (drop at bytes) x) (sym c.encoded_len.ensures.value) c.at-block.ensures.block in
    inr (more_begin bytes at (some_seen bytes at c.self.invariant c.if-self.false) x c.encoded_len.result front (ends_not c.body.ensures.value c.in_default.not-End))

-- what was there before and after the block
given : (x : Placed BlockValue) (old new a b : Placed (List BlockValue)) → GivesPart block_text a (Some x) b → a ≡ old → new ≡ b → GivesPart block_text old (Some x) new
given x old new a b gives before after = subst (λ p. GivesPart block_text p (Some x) new) before (subst (λ p. GivesPart block_text a (Some x) p) (sym after) gives)

pub returns-clause-steps : goal.returns-clause-steps
returns-clause-steps c =
    let bytes = c.self.inside.bytes.now in
    let at = c.self.inside.at in
    let here = some_seen bytes at c.self.invariant c.if-self.false in
    let x = c.at-block.result in
    let n = c.encoded_len.result in
    let front = subst (IsFrontBlock (drop at bytes) x.value) (sym c.encoded_len.ensures.value) c.at-block.ensures.block in
    elim c.match-body.branch [
      | in-End w ↦
          given x c.args.self.now c.match-body.self (seen bytes at) (seen (take (at + n) bytes) (at + n))
          (gives_last bytes at here x c.at-block.ensures.place n front (ap (λ body. is_ending (standing body)) (sym c.body.ensures.value ∙ ap viewed w.in-End.is))) c.self.view_is w.self-is
      | in_default w ↦
          given x c.args.self.now c.match-body.self (seen bytes at) (seen bytes (at + n))
          (gives_next bytes at here x c.at-block.ensures.place n front (ends_not c.body.ensures.value w.in_default.not-End)) c.self.view_is w.self-is
    ]

pub returns-clause-goes : goal.returns-clause-goes
returns-clause-goes c = part_less block_text _ (λ s. tt) c.args.self.now _ c.at-block.result (returns-clause-steps c)
