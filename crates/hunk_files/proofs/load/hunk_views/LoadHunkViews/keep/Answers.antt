use Rattle.std.proofs.Common.{◌≡◌, ◌++◌, ◌∷◌, [], map, ◌∙◌, sym, ap, subst, rules}
use Rattle.std.proofs.lemmas.{List.map_push, Result.err_from_is_err_and}
use Rattle.hunk_files.specs.{FileSteps.{hunk as hunk_with}, declared.load.hunk.LoadHunk.LoadHunk, Tables.{hunk_of, size_entry}}
use Rattle.hunk_files.proofs.views.HunksInPlace.{hunk_text, next_hunk_of, seen_hunks}
use Rattle.hunk_files.proofs.keeping.LoadKeeping.{all_kept, hunk_kept, hunk_lacks, hunks_after, part_lacks, some_after}
use Rattle.hunk_files.proofs.views.PartsInTurn.{Taken}
use Rattle.hunk_files.proofs.load.hunk_views.LoadHunkViews.keep.Goals as goal

pub at-views-requires : goal.at-views-requires
at-views-requires c = (next_hunk_of c.keeping.size-iterator (size_entry c.in-Some.size) c.next.new.self c.self.inside.bytes.now c.keeping.at c.in-Some.ensures.steps c.keeping.invariant.0).here

pub returns-in_err-kept-clause-place : goal.returns-in_err-kept-clause-place
returns-in_err-kept-clause-place c =
    let p = err_from_is_err_and c.from_residual.result c.from_residual.ensures.1 in
    rw (p.1, p.2) (part_lacks c.self.inside.bytes.now c.keeping.at c.keeping.invariant.0 c.keeping.invariant.1 c.in-Some.ensures.steps c.at-views.result c.at-views.ensures c.in_err-kept.field-0.0.place c.in_err-kept.ensures.place)

pub out_of_memory-requires : goal.out_of_memory-requires
out_of_memory-requires c = some_after c.self.inside.bytes.now c.keeping.at c.keeping.invariant.0 c.keeping.invariant.1 c.in-Some.ensures.steps c.at-views.result c.at-views.ensures c.place-at.result (c.place-at.ensures ∙ c.in_ok-kept.ensures.after)

pub returns-then-is_err-clause-place : goal.returns-then-is_err-clause-place
returns-then-is_err-clause-place c = hunk_lacks c.self.inside.bytes.now c.keeping.at c.keeping.invariant.0 c.keeping.invariant.1 c.in-Some.ensures.steps c.at-views.result c.at-views.ensures c.place-at.result (c.place-at.ensures ∙ c.in_ok-kept.ensures.after) c.out_of_memory.result.place c.out_of_memory.ensures.place

pub keeping-preserved : goal.keeping-preserved
keeping-preserved c =
    let hunk : LoadHunk = record { row = c.row_of-row.result; blocks = c.in_ok-kept.kept } in
    let pushed : c.push.new.self.items ≡ c.keeping.hunks.items ++ hunk ∷ [] = search rules in
    let more : map hunk_of c.push.new.self.items ≡ map hunk_of c.keeping.hunks.items ++ hunk_of hunk ∷ [] = ap (map hunk_of) pushed ∙ map_push hunk_of c.keeping.hunks.items hunk in
    let same : hunk_of hunk ≡ hunk_with (size_entry c.in-Some.size) c.at-views.result.value = λ i. hunk_with (c.row_of-row.ensures i) (c.in_ok-kept.ensures.kept i) in (
      hunks_after c.self.inside.bytes.now c.keeping.at c.keeping.invariant.0 c.keeping.invariant.1 c.in-Some.ensures.steps c.at-views.result c.at-views.ensures c.place-at.result (c.place-at.ensures ∙ c.in_ok-kept.ensures.after),
      subst (Taken hunk_text c.args.self (seen_hunks c.next.new.self c.self.inside.bytes.now c.place-at.result)) (sym more) (hunk_kept c.self.inside.bytes.now c.keeping.at c.keeping.invariant.0 c.keeping.invariant.1 c.in-Some.ensures.steps c.at-views.result c.at-views.ensures c.place-at.result (c.place-at.ensures ∙ c.in_ok-kept.ensures.after) (hunk_of hunk) same),
    )

pub returns-clause-kept : goal.returns-clause-kept
returns-clause-kept c = all_kept c.self.inside.bytes.now c.keeping.at c.keeping.invariant.1 c.in-None.ensures.steps.0
