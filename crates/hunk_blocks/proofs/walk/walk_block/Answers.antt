use Rattle.std.proofs.Common.{◌*◌, ℕ, ◌+◌, ◌/◌, List, length, arith, sym, subst, ◌∙◌, Option, Some}
use Rattle.hunk_words.specs.{Longs.longs, declared.fault.Fault.Fault}
use Rattle.hunk_words.specs.declared.reason.Reason.TheVariants as reasons
use Rattle.hunk_grammar.specs.{declared.mode.Mode.Mode, declared.phase.Phase.Phase}
use Rattle.hunk_blocks.specs.Faults.{HasBlockFault}
use Rattle.hunk_words.proofs.LongLaws.{length-longs}
use Rattle.hunk_grammar.specs.PhaseSteps as inside
use Rattle.hunk_blocks.proofs.BlockWalks.{BlockWalks, refused, passes, ends, ends_early}
use Rattle.hunk_blocks.proofs.walk.walk_block.Goals as goal

-- the number of whole longwords
cut_at : (mode : Mode) (bytes : List ℕ) → HasBlockFault mode bytes (4 * length (longs bytes)) reasons.Truncated → HasBlockFault mode bytes (4 * (length bytes / 4)) reasons.Truncated
cut_at mode bytes h = subst (λ (n : ℕ). HasBlockFault mode bytes (4 * n) reasons.Truncated) (length-longs bytes) h

pub returns-then-at-count : goal.returns-then-at-count
returns-then-at-count c =
    let bytes = c.args.bytes.now in
    let some = subst (BlockWalks c.args.mode bytes c.walking.at) c.in-Some.is c.walking.invariant in
    subst (λ (f : Fault). HasBlockFault c.args.mode bytes f.place f.reason) (sym c.cut.ensures)
    (cut_at c.args.mode bytes (ends_early c.args.mode bytes (λ i. omega (arith, c.type_inv.bytes i)) c.walking.at (Some c.in-Some.phase) some (omega (arith, c.if-at-count.true, length-longs bytes)) (λ e. absurd cc)))

pub returns-in-Some-refuse_alone : goal.returns-in-Some-refuse_alone
returns-in-Some-refuse_alone c =
    let bytes = c.args.bytes.now in
    refused c.args.mode bytes (λ i. omega (arith, c.type_inv.bytes i)) c.walking.at c.in-Some.phase (subst (BlockWalks c.args.mode bytes c.walking.at) c.in-Some.is c.walking.invariant) (omega (arith, c.if-at-count.false, length-longs bytes)) c.word_at-word.result c.word_at-word.ensures c.in-Some-refuse_alone.reason
    (sym c.refuse_alone.ensures ∙ c.in-Some-refuse_alone.is)

pub walking-preserved : goal.walking-preserved
walking-preserved c =
    let bytes = c.args.bytes.now in
    let some = subst (BlockWalks c.args.mode bytes c.walking.at) c.in-Some.is c.walking.invariant in
    let on = passes c.args.mode bytes (λ i. omega (arith, c.type_inv.bytes i)) c.walking.at c.in-Some.phase some (omega (arith, c.if-at-count.false, length-longs bytes)) c.word_at-word.result c.word_at-word.ensures
    (sym c.refuse_alone.ensures ∙ c.in_default-refuse_alone.is) in
    let P : Option Phase → Type 0 = λ p. BlockWalks c.args.mode bytes (c.walking.at + (1 + inside.longest_run_of p)) (inside.pass_longest_run_of p) in
    let here = subst P (sym c.step-after.ensures) on in
    subst (BlockWalks c.args.mode bytes (c.walking.at + (1 + c.longest_run_of.result))) (sym c.pass_longest_run_of-position.ensures)
    (subst (λ (n : ℕ). BlockWalks c.args.mode bytes (c.walking.at + (1 + n)) (inside.pass_longest_run_of c.step-after.result)) (sym c.longest_run_of.ensures.value) here)

pub returns-then-at-count-2 : goal.returns-then-at-count-2
returns-then-at-count-2 c =
    let bytes = c.args.bytes.now in
    subst (λ (f : Fault). HasBlockFault c.args.mode bytes f.place f.reason) (sym c.cut-then-at-count-2.ensures)
    (cut_at c.args.mode bytes (ends_early c.args.mode bytes (λ i. omega (arith, c.type_inv.bytes i)) c.walking.at c.walking.position c.walking.invariant (omega (arith, c.if-at-count-2.true, length-longs bytes)) (λ e. omega (arith, c.if-at-count-2.true, length-longs bytes))))

pub returns : goal.returns
returns c =
    let bytes = c.args.bytes.now in
    ends c.args.mode bytes (λ i. omega (arith, c.type_inv.bytes i)) c.walking.at (subst (BlockWalks c.args.mode bytes c.walking.at) c.in_default.is c.walking.invariant) (omega (arith, c.if-at-count-2.false, length-longs bytes))
