use Rattle.std.proofs.Common.{◌/◌, ◌∙◌, ℕ, List, length, ap, subst, sym}
use Rattle.std.specs.List.{AllByRecursion, flat_map}
use Rattle.hunk_blocks.specs.{Values.RelocGroup, Views.group_of}
use Rattle.hunk_files.specs.{Image.{group_relocations, relocated}, LoadFile.FitsGroup}
use Rattle.hunk_files.proofs.image.FillingLaws.{group_relocated}
use Rattle.hunk_files.proofs.load.filling.relocate_groups.Goals as goal

pub relocating-preserved : goal.relocating-preserved
relocating-preserved g c =
    let bases = g.B.Bases.bases c.args.bases.now in
    let left = c.next.new.self.value in
    record {
      stays = c.base-base.ensures.stays ∙ c.relocating.invariant.stays;
      room = (subst (AllByRecursion (FitsGroup (length bases) (length c.args.memory.now / 4))) c.in-Some.ensures.steps.0 c.relocating.invariant.room).1;
      left =
          ap (λ (m : List ℕ). relocated bases m (flat_map group_relocations left)) c.relocate_group.ensures
          ∙ group_relocated bases c.relocating.memory (group_of c.in-Some.group) left c.base-base.result (rw c.relocating.invariant.stays at c.base-base.ensures.base)
          ∙ ap (λ (gs : List RelocGroup). relocated bases c.relocating.memory (flat_map group_relocations gs)) (sym c.in-Some.ensures.steps.0)
          ∙ c.relocating.invariant.left;
    }
