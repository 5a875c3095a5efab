use Rattle.std.proofs.Common.{◌≡◌}
use Rattle.hunk_words.specs.Longs.{bytes_of}
use Rattle.hunk_words.proofs.Shown.{ShownUpTo}
use Rattle.hunk_files.specs.Hunks.{block_texts}
use Rattle.hunk_files.proofs.load.file.print_hunks.Given as goal

abbrev pub invariant-putting : goal.invariant-putting
invariant-putting g l = (l.page.origin ≡ l.fn.page.origin) × ShownUpTo (λ h. bytes_of (block_texts h.blocks.items)) l.hunks l.hunk-index l.page.text l.fn.page.text
