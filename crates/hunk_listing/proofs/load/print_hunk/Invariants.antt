use Rattle.std.proofs.Common.{◌≡◌, ◌++◌}
use Rattle.std.specs.List.{flat_map}
use Rattle.hunk_listing.specs.BlockLines.{block_lines}
use Rattle.hunk_listing.proofs.load.print_hunk.Given as goal

abbrev pub invariant-lines : goal.invariant-lines
invariant-lines g l =
    (l.page.origin ≡ l.initial.page.origin)
    × (l.page.text ++ flat_map block_lines l.block-iterator.value ≡ l.initial.page.text ++ flat_map block_lines l.fn.hunk.blocks.value)
