use Rattle.std.proofs.Common.{◌≡◌, ◌++◌}
use Rattle.std.specs.List.{flat_map}
use Rattle.hunk_listing.specs.BlockLines.{group_lines}
use Rattle.hunk_listing.proofs.block.print_relocations.Given as goal

abbrev pub invariant-groups : goal.invariant-groups
invariant-groups g l =
    (l.page.origin ≡ l.initial.page.origin)
    × (l.page.text ++ flat_map group_lines l.group-iterator.value ≡ l.initial.page.text ++ flat_map group_lines l.fn.groups.value)
