use Rattle.std.proofs.Common.{◌≡◌, ◌++◌}
use Rattle.std.specs.List.{flat_map}
use Rattle.hunk_listing.specs.BlockLines.{offset_line}
use Rattle.hunk_listing.proofs.entry.print_offsets.Given as goal

abbrev pub invariant-offsets : goal.invariant-offsets
invariant-offsets g l =
    (l.page.origin ≡ l.fn.page.origin)
    × (l.page.text ++ flat_map offset_line l.offset-iterator ≡ l.fn.page.text ++ flat_map offset_line l.offsets)
