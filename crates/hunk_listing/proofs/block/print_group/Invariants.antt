use Rattle.std.proofs.Common.{◌≡◌, ◌++◌}
use Rattle.std.specs.List.{flat_map}
use Rattle.hunk_listing.specs.BlockLines.{relocation_line}
use Rattle.hunk_listing.proofs.block.print_group.Given as goal

abbrev pub invariant-offsets : goal.invariant-offsets
invariant-offsets g l =
    (l.page.origin ≡ l.fn.page.origin)
    × (l.page.text ++ flat_map (relocation_line l.group.target) l.offset-iterator ≡ l.fn.page.text ++ flat_map (relocation_line l.group.target) l.group.offsets)
