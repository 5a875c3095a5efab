use Rattle.std.proofs.Common.{◌+◌, ℕ, List, ◌++◌, sym, ap, subst, ◌∙◌}
use Rattle.hunk_blocks.specs.{Values.RelocGroup, Views.group_of}
use Rattle.hunk_files.proofs.findings.FindingSteps.{taken_on}
use Rattle.hunk_c.specs.Relocations.{group_rows, offset_rows}
use Rattle.hunk_c.proofs.relocations.list_groups.Goals as goal

pub listing-preserved : goal.listing-preserved
listing-preserved g c =
    let r = c.args.relocated in
    let left = group_rows r in
    let old = c.listing.groups in
    let new = c.next.new.self in
    let group = group_of c.in-Some.group in
    let steps = c.in-Some.ensures.steps in
    let first =
    ap (λ (gs : List RelocGroup). left old.place gs) steps.0
    ∙ ap (λ (n : ℕ). offset_rows r group.target (old.place + 8) group.offsets ++ left n new.value) (sym steps.1) in (
      c.place-after.ensures,
      taken_on g.T.Takes.takes g.met.T.Takes.more _ _ _ (offset_rows r group.target (old.place + 8) group.offsets) (left new.place new.value) (left old.place old.value)
          (left c.args.groups.place c.args.groups.value) first c.listing.invariant.1
          (subst (λ (n : ℕ). g.T.Takes.takes c.listing.taker (offset_rows r group.target (n + 8) group.offsets) c.list_offsets.new.taker) c.listing.invariant.0 c.list_offsets.ensures),
    )
