use Rattle.std.proofs.Common.{◌≡◌, ◌++◌}
use Rattle.std.specs.{List.flat_map, Slice.Iter.iter_rest}
use Rattle.hunk_blocks.specs.{declared.groups.Group.Group, Views.group_of}
use Rattle.hunk_files.specs.Image.{offsets, group_relocations}
use Rattle.hunk_files.proofs.load.overlap.push_offsets.Given as goal

abbrev pub invariant-pushing : goal.invariant-pushing
invariant-pushing l =
    l.rising.items ++ offsets (flat_map (λ (g : Group). group_relocations (group_of g)) (iter_rest l.group-iterator))
    ≡ l.fn.rising.items ++ offsets (flat_map (λ (g : Group). group_relocations (group_of g)) l.groups)
