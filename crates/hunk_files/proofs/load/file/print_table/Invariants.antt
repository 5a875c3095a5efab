use Rattle.std.proofs.Common.{◌≡◌}
use Rattle.hunk_words.specs.Longs.{bytes_of}
use Rattle.hunk_words.proofs.Shown.{ShownUpTo}
use Rattle.hunk_files.specs.Tables.{row_words}
use Rattle.hunk_files.proofs.load.file.print_table.Given as goal

abbrev pub invariant-putting : goal.invariant-putting
invariant-putting g l = (l.page.origin ≡ l.fn.page.origin) × ShownUpTo (λ h. bytes_of (row_words h.row)) l.hunks l.hunk-index l.page.text l.fn.page.text
