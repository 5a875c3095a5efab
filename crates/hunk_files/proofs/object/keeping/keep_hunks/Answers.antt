use Rattle.std.proofs.Common.{◌≡◌, ◌∷◌, ◌++◌, [], List, ◌∙◌, refl, rules, subst, sym}
use Rattle.std.proofs.lemmas.Result.{err_from_is_err_and}
use Rattle.hunk_files.specs.{Hunks.block_texts, ObjectFile.{ObjectHunk, IsObjectHunk}, ObjectViews.hunks_at}
use Rattle.hunk_files.proofs.keeping.HunkKeeping.{all_kept, are_hunk, hunk_kept, hunk_lacks, hunks_after, nearer, part_of_hunk, some_after}
use Rattle.hunk_files.proofs.{views.ObjectViewLaws.{next_hunk, tested}, views.PartsInTurn.Taken}
use Rattle.hunk_files.proofs.object.keeping.keep_hunks.Goals as goal

pub at-views-requires : goal.at-views-requires
at-views-requires c = next_hunk c.args.bytes.now c.keeping.at c.keeping.invariant.0 (tested c.args.bytes.now c.keeping.at c.ends_unit.result c.ends_unit.ensures (let test = c.keeping-test.true in cc))

pub returns-in_err-blocks-clause-place : goal.returns-in_err-blocks-clause-place
returns-in_err-blocks-clause-place c =
    let p = err_from_is_err_and c.from_residual.result c.from_residual.ensures.1 in
    rw (p.1, p.2)
    (part_of_hunk c.args.bytes.now c.keeping.at c.keeping.invariant.0 (tested c.args.bytes.now c.keeping.at c.ends_unit.result c.ends_unit.ensures (let test = c.keeping-test.true in cc)) c.at-views.result c.at-views.ensures (hunks_at c.args.bytes.now c.args.start) c.keeping.hunks.items c.keeping.invariant.1
    c.in_err-blocks.field-0.0.place c.in_err-blocks.ensures.place)

pub invariant_of-append : goal.invariant_of-append
invariant_of-append c =
    subst IsObjectHunk (sym c.in_ok-blocks.ensures.kept)
    (are_hunk c.args.bytes.now c.keeping.at c.keeping.invariant.0 (tested c.args.bytes.now c.keeping.at c.ends_unit.result c.ends_unit.ensures (let test = c.keeping-test.true in cc)) c.at-views.result c.at-views.ensures)

pub out_of_memory-requires : goal.out_of_memory-requires
out_of_memory-requires c =
    some_after c.args.bytes.now c.keeping.at c.keeping.invariant.0 (tested c.args.bytes.now c.keeping.at c.ends_unit.result c.ends_unit.ensures (let test = c.keeping-test.true in cc)) c.at-views.result c.at-views.ensures
    c.place-at.result (c.place-at.ensures ∙ c.in_ok-blocks.ensures.after)

pub returns-then-is_err-clause-place : goal.returns-then-is_err-clause-place
returns-then-is_err-clause-place c =
    hunk_lacks c.args.bytes.now c.keeping.at c.keeping.invariant.0 (tested c.args.bytes.now c.keeping.at c.ends_unit.result c.ends_unit.ensures (let test = c.keeping-test.true in cc)) c.at-views.result c.at-views.ensures (hunks_at c.args.bytes.now c.args.start) c.keeping.hunks.items c.keeping.invariant.1
    c.place-at.result (c.place-at.ensures ∙ c.in_ok-blocks.ensures.after) c.out_of_memory.result.place c.out_of_memory.ensures.place

pub keeping-smaller : goal.keeping-smaller
keeping-smaller c =
    nearer c.args.bytes.now c.keeping.at c.keeping.invariant.0 (tested c.args.bytes.now c.keeping.at c.ends_unit.result c.ends_unit.ensures (let test = c.keeping-test.true in cc)) c.at-views.result c.at-views.ensures
    c.place-at.result (c.place-at.ensures ∙ c.in_ok-blocks.ensures.after)

pub keeping-preserved : goal.keeping-preserved
keeping-preserved c =
    let pushed : c.append.new.list.items ≡ c.keeping.hunks.items ++ c.at-views.result.value ∷ [] = search rules in (
      hunks_after c.args.bytes.now c.keeping.at c.keeping.invariant.0 (tested c.args.bytes.now c.keeping.at c.ends_unit.result c.ends_unit.ensures (let test = c.keeping-test.true in cc)) c.at-views.result c.at-views.ensures
          c.place-at.result (c.place-at.ensures ∙ c.in_ok-blocks.ensures.after),
      subst (λ (hs : List ObjectHunk). Taken block_texts (hunks_at c.args.bytes.now c.args.start) (hunks_at c.args.bytes.now c.place-at.result) hs) (sym pushed)
          (hunk_kept c.args.bytes.now c.keeping.at c.keeping.invariant.0 (tested c.args.bytes.now c.keeping.at c.ends_unit.result c.ends_unit.ensures (let test = c.keeping-test.true in cc)) c.at-views.result c.at-views.ensures (hunks_at c.args.bytes.now c.args.start) c.keeping.hunks.items c.keeping.invariant.1
          c.place-at.result (c.place-at.ensures ∙ c.in_ok-blocks.ensures.after) c.at-views.result.value refl),
    )

pub returns-clause-kept : goal.returns-clause-kept
returns-clause-kept c =
    (all_kept c.args.bytes.now c.keeping.at c.keeping.invariant.0 (tested c.args.bytes.now c.keeping.at c.ends_unit.result c.ends_unit.ensures (let test = c.keeping-test.false in cc)) (hunks_at c.args.bytes.now c.args.start) c.keeping.hunks.items c.keeping.invariant.1).0

pub returns-clause-end : goal.returns-clause-end
returns-clause-end c =
    (all_kept c.args.bytes.now c.keeping.at c.keeping.invariant.0 (tested c.args.bytes.now c.keeping.at c.ends_unit.result c.ends_unit.ensures (let test = c.keeping-test.false in cc)) (hunks_at c.args.bytes.now c.args.start) c.keeping.hunks.items c.keeping.invariant.1).1
