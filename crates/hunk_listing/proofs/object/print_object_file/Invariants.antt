use Rattle.std.proofs.Common.{◌≡◌, ◌++◌}
use Rattle.std.specs.List.{flat_map}
use Rattle.hunk_files.specs.Items.{object_items}
use Rattle.hunk_listing.specs.FileLines.{item_lines}
use Rattle.hunk_listing.proofs.object.print_object_file.Given as goal

abbrev pub invariant-items : goal.invariant-items
invariant-items g l =
    (l.page.origin ≡ l.initial.page.origin)
    × (l.page.text ++ flat_map item_lines l.item-iterator.value ≡ l.initial.page.text ++ flat_map item_lines (object_items l.fn.file).value)
