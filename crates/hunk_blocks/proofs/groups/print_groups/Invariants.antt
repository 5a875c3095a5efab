use Rattle.std.proofs.Common.{◌≡◌}
use Rattle.hunk_words.specs.Longs.{bytes_of}
use Rattle.hunk_words.proofs.Shown.{ShownUpTo}
use Rattle.hunk_blocks.specs.{Parts.group_text, Views.group_of}
use Rattle.hunk_blocks.proofs.groups.print_groups.Given as goal

abbrev pub invariant-groups : goal.invariant-groups
invariant-groups g l = (l.page.origin ≡ l.fn.page.origin) × ShownUpTo (λ x. bytes_of (group_text (group_of x))) l.groups l.group-index l.page.text l.fn.page.text
