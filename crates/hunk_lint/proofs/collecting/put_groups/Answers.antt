use Rattle.std.proofs.Common.{[], ◌++◌, ℕ, List, length, take, ap, sym, ◌∙◌, arith, length-append}
use Rattle.hunk_blocks.specs.{Views.group_of}
use Rattle.hunk_files.specs.Image.{group_relocations}
use Rattle.hunk_files.proofs.image.OffsetLists.{group_offsets, offsets_first}
use Rattle.hunk_lint.specs.Collecting.{groups_offsets}
use Rattle.hunk_lint.proofs.collecting.put_groups.Goals as goal

pub putting-preserved : goal.putting-preserved
putting-preserved c =
    let old = c.putting.group-iterator.value in
    let new = c.next.new.self.value in
    let group = group_of c.in-Some.group in
    let steps = c.in-Some.ensures.steps in
    let own = group_offsets group in
    let on = offsets_first group_relocations old new group in
    record {
      at_is = omega (
        arith,
        c.put_longs-at.ensures.end,
        c.putting.invariant.at_is,
        length-append group.offsets (groups_offsets new),
        ap (λ (os : List ℕ). length os) (on [] group.offsets steps.0 (sym own)),
      );
      put =
          on (take c.putting.at c.putting.room) (take c.put_longs-at.result c.put_longs-at.new.room) steps.0
          (c.put_longs-at.ensures.put ∙ ap (λ (os : List ℕ). take c.putting.at c.putting.room ++ os) (sym own))
          ∙ c.putting.invariant.put;
    }
