use Rattle.std.proofs.Common.{◌≡◌}
use Rattle.hunk_words.specs.Longs.{bytes_of}
use Rattle.hunk_words.proofs.Shown.{ShownUpTo}
use Rattle.std.specs.List.{flat_map}
use Rattle.hunk_blocks.specs.Parts.{block_text}
use Rattle.hunk_files.proofs.object.unit.print_hunks.Given as goal

abbrev pub invariant-writing : goal.invariant-writing
invariant-writing g l = (l.page.origin ≡ l.fn.page.origin) × ShownUpTo (λ h. bytes_of (flat_map block_text h)) l.hunks l.hunk-index l.page.text l.fn.page.text
