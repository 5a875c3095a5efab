use Rattle.std.proofs.Common.{◌≡◌, ◌/◌, ℕ, List, length}
use Rattle.std.specs.List.{AllByRecursion, fold}
use Rattle.hunk_files.specs.{Image.add_at, LoadFile.IsInside}
use Rattle.hunk_files.proofs.load.filling.relocate_group.Given as goal

abbrev pub invariant-relocating : goal.invariant-relocating
invariant-relocating l = record {
  room : AllByRecursion (IsInside (length l.initial.memory / 4)) l.offset-iterator;
  left :
      fold (λ (bytes : List ℕ) (offset : ℕ). add_at bytes offset l.base) l.memory l.offset-iterator
      ≡ fold (λ (bytes : List ℕ) (offset : ℕ). add_at bytes offset l.base) l.initial.memory l.group.offsets;
}
