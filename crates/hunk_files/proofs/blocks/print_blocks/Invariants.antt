use Rattle.std.proofs.Common.{◌≡◌}
use Rattle.hunk_words.specs.Longs.{bytes_of}
use Rattle.hunk_words.proofs.Shown.{ShownUpTo}
use Rattle.hunk_blocks.specs.Parts.{block_text}
use Rattle.hunk_files.proofs.blocks.print_blocks.Given as goal

abbrev pub invariant-putting : goal.invariant-putting
invariant-putting g l = (l.page.origin ≡ l.fn.page.origin) × ShownUpTo (λ b. bytes_of (block_text b)) l.blocks l.block-index l.page.text l.fn.page.text
