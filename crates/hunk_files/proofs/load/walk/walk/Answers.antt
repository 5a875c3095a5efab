use Rattle.std.proofs.Common.{◌≡◌, ℕ, ◌+◌, ◌*◌, ◌/◌, ◌≤◌, List, length, Bool, arith, ap, sym, subst, ◌∙◌, slice_index, if◌then◌else◌, Some, IfErr}
use Rattle.hunk_words.specs.Longs.{longs, IsBytes}
use Rattle.std.proofs.lemmas.List.{take_all}
use Rattle.hunk_words.specs.declared.reason.Reason.{Reason}
use Rattle.hunk_words.specs.declared.reason.Reason.TheVariants as reasons
use Rattle.hunk_words.proofs.LongLaws.{length-longs}
use Rattle.hunk_grammar.specs.Roles.{refuse}
use Rattle.hunk_grammar.specs.Positions as scan
use Rattle.hunk_grammar.specs.Positions.{role_at}
use Rattle.hunk_grammar.specs.declared.position.Position.{Position}
use Rattle.hunk_files.specs.Entries.{entry_at, entry_after}
use Rattle.hunk_files.specs.Fault.{HasFault}
use Rattle.hunk_files.specs.FileParts.{IsLoadPart}
use Rattle.hunk_files.specs.ReaderPosition.{part_in}
use Rattle.hunk_files.specs.declared.load.walk.DeclaredHunk.{DeclaredHunk}
use Rattle.hunk_files.proofs.walk.LoadWalks.{Walks, refused, ends, opens, passes, ends_early, part_here, part_at_end}
use Rattle.hunk_files.proofs.{parts.FileParts.refuses, walk.PassedWalks.{walk_front, walk_over}}
use Rattle.hunk_files.proofs.walk.Passed.{passed_on}
use Rattle.hunk_files.proofs.load.walk.walk.Goals as goal
use Rattle.hunk_files.proofs.load.walk.walk.Goals.{then-is_between_hunks, else-is_between_hunks}

pub walking-init : goal.walking-init
walking-init c =
    let front = c.pass_front-at in
    walk_front c.args.bytes.now (λ i. omega (arith, c.type_inv.bytes i)) front.result.0 front.result.1 front.result.2 front.ensures

pub returns-in-Err : goal.returns-in-Err
returns-in-Err c =
    let bytes = c.args.bytes.now in
    let w = c.walking in
    let fault = refused bytes (λ i. omega (arith, c.type_inv.bytes i)) w.at w.position w.entry w.invariant (omega (arith, length-longs bytes)) c.word_at-word.result c.word_at-word.ensures c.in-Err.reason
    (subst (λ r. IfErr r (λ (reason : Reason). refuse (role_at w.entry.longs w.position) c.word_at-word.result ≡ Some reason)) c.in-Err.is c.step_from.ensures.refusal) in
    refuses (HasFault bytes) IsLoadPart (longs bytes) w.at c.in-Err.reason (part_in w.position) c.refusal_at.result c.refusal_at.ensures.fault c.refusal_at.ensures.part fault
    (part_here bytes w.at w.position w.entry w.invariant (omega (arith, c.walking-test.true, length-longs bytes)))

pub returns-in-Done : goal.returns-in-Done
returns-in-Done c =
    let bytes = c.args.bytes.now in
    let w = c.walking in
    let ok = c.in-Ok in
    ends bytes (λ i. omega (arith, c.type_inv.bytes i)) w.at w.position w.entry w.invariant (omega (arith, length-longs bytes)) c.word_at-word.result c.word_at-word.ensures
    ok.after ok.ensures.steps ok.ensures.passes c.in-Done.is

pub at-entry-requires : goal.at-entry-requires
at-entry-requires c =
    let bytes = c.args.bytes.now in
    let w = c.walking in
    let ok = c.in-Ok in
    opens bytes (λ i. omega (arith, c.type_inv.bytes i)) w.at w.position w.entry w.invariant (omega (arith, length-longs bytes)) c.word_at-word.result c.word_at-word.ensures
    ok.after ok.ensures.steps ok.ensures.passes c.in_default.not-Done (sym c.is_between_hunks.ensures ∙ c.if-is_between_hunks.true)

pub walking-preserved : goal.walking-preserved
walking-preserved c =
    let bytes = c.args.bytes.now in
    let w = c.walking in
    let fit : IsBytes bytes = λ i. omega (arith, c.type_inv.bytes i) in
    let ok = c.in-Ok in
    let on =
    passes bytes fit w.at w.position w.entry w.invariant (omega (arith, length-longs bytes)) c.word_at-word.result c.word_at-word.ensures
    ok.after ok.ensures.steps ok.ensures.passes c.in_default.not-Done in
    let entry = c.if-is_between_hunks.entry in
    let opened : Bool → DeclaredHunk = λ b. if b then entry_after (slice_index (longs bytes) w.entry.next) w.entry.next else w.entry in
    let entry_is : entry ≡ entry_at (longs bytes) ok.after w.entry =
    elim c.if-is_between_hunks.branch [
      | then-is_between_hunks v ↦ v.entry-is ∙ v.at-entry.ensures ∙ ap opened (sym (sym c.is_between_hunks.ensures ∙ v.if-is_between_hunks.true))
      | else-is_between_hunks v ↦ v.entry-is ∙ ap opened (sym (sym c.is_between_hunks.ensures ∙ v.if-is_between_hunks.false))
    ] in
    let from : w.at + (1 + c.run-run.result) ≡ w.at + 1 + c.run-run.result = omega arith in
    let P : ℕ → Type 0 = λ n. Walks bytes (w.at + (1 + n)) (scan.pass ok.after n) (entry_at (longs bytes) ok.after w.entry) in
    let here = subst (λ (k : ℕ). Walks bytes k c.pass.result entry) from
    (subst (λ (p : Position). Walks bytes (w.at + (1 + c.run-run.result)) p entry) (sym c.pass.ensures)
    (subst (λ (e : DeclaredHunk). Walks bytes (w.at + (1 + c.run-run.result)) (scan.pass ok.after c.run-run.result) e) (sym entry_is)
    (subst P (sym c.run-run.ensures.value) on))) in
    let over = c.pass_over in
    walk_over bytes fit (w.at + 1 + c.run-run.result) c.pass.result entry over.result.0 over.result.1 over.result.2 here over.ensures

pub returns : goal.returns
returns c =
    let bytes = c.args.bytes.now in
    let w = c.walking in
    let all : length (longs bytes) ≤ w.at = omega (arith, c.walking-test.false, length-longs bytes) in
    let P : ℕ → Type 0 = λ n. HasFault bytes (4 * n) reasons.Truncated in
    refuses (HasFault bytes) IsLoadPart (longs bytes) (length bytes / 4) reasons.Truncated (part_in w.position) c.refusal_at-2.result c.refusal_at-2.ensures.fault c.refusal_at-2.ensures.part
    (subst P (length-longs bytes) (ends_early bytes w.at w.position w.entry w.invariant all))
    (subst (λ (ws : List ℕ). IsLoadPart ws (part_in w.position)) (sym (take_all (length bytes / 4) (longs bytes) (omega (arith, length-longs bytes)))) (part_at_end bytes w.at w.position w.entry w.invariant all))

pub walking-smaller : goal.walking-smaller
walking-smaller c =
    let over = c.pass_over in
    let on = passed_on (longs c.args.bytes.now) (c.walking.at + 1 + c.run-run.result) c.pass.result c.if-is_between_hunks.entry over.result.0 over.result.1 over.result.2 over.ensures in
    omega (arith, on, c.walking-test.true)
