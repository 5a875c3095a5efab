use Rattle.std.proofs.Common.{◌≡◌, ◌+◌, ◌++◌, length}
use Rattle.hunk_listing.specs.FileLines.{hunk_lines, numbered}
use Rattle.hunk_listing.proofs.load.print_load_file.Given as goal

abbrev pub invariant-hunks : goal.invariant-hunks
invariant-hunks g l =
    (l.page.origin ≡ l.initial.page.origin)
    × (l.number + length l.hunk-iterator.value ≡ length l.fn.file)
    × (l.page.text ++ numbered hunk_lines l.number l.hunk-iterator.value ≡ l.initial.page.text ++ numbered hunk_lines 0 l.fn.file)
