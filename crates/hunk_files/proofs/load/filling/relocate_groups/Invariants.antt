use Rattle.std.proofs.Common.{◌≡◌, ◌/◌, length}
use Rattle.std.specs.List.{AllByRecursion, flat_map}
use Rattle.hunk_files.specs.{Image.{group_relocations, relocated}, LoadFile.FitsGroup}
use Rattle.hunk_files.proofs.load.filling.relocate_groups.Given as goal

abbrev pub invariant-relocating : goal.invariant-relocating
invariant-relocating g l = record {
  stays : g.B.Bases.bases l.bases ≡ g.B.Bases.bases l.fn.bases;
  room : AllByRecursion (FitsGroup (length (g.B.Bases.bases l.fn.bases)) (length l.initial.memory / 4)) l.group-iterator.value;
  left :
      relocated (g.B.Bases.bases l.fn.bases) l.memory (flat_map group_relocations l.group-iterator.value)
      ≡ relocated (g.B.Bases.bases l.fn.bases) l.initial.memory (flat_map group_relocations l.fn.groups.value);
}
