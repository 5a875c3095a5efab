use Rattle.std.proofs.Common.{◌≡◌, ◌++◌, length}
use Rattle.std.specs.List.{flat_map}
use Rattle.hunk_listing.specs.BlockLines.{count_line, entry_lines}
use Rattle.hunk_listing.proofs.block.print_entries.Given as goal

abbrev pub invariant-entries : goal.invariant-entries
invariant-entries g l =
    (l.page.origin ≡ l.fn.page.origin)
    × (l.page.text ++ flat_map entry_lines l.entry-iterator.value ≡ l.fn.page.text ++ (count_line l.fn.word (length l.fn.entries.value) ++ flat_map entry_lines l.fn.entries.value))
