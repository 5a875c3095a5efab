use Rattle.std.proofs.Common.{◌≡◌}
use Rattle.hunk_words.specs.Longs.{bytes_of}
use Rattle.hunk_words.proofs.Shown.{ShownUpTo}
use Rattle.hunk_blocks.specs.{Parts.ext_text, Views.entry_of}
use Rattle.hunk_blocks.proofs.entries.print_entries.Given as goal

abbrev pub invariant-entries : goal.invariant-entries
invariant-entries g l = (l.page.origin ≡ l.fn.page.origin) × ShownUpTo (λ x. bytes_of (ext_text (entry_of x))) l.entries l.entry-index l.page.text l.fn.page.text
