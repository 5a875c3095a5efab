use Rattle.hunk_blocks.specs.{Parts.group_text, Views.group_of}
use Rattle.hunk_blocks.proofs.ListReading.{Keeps}
use Rattle.hunk_blocks.proofs.groups.keep_groups.Given as goal

abbrev pub invariant-keeping : goal.invariant-keeping
invariant-keeping l = Keeps group_of group_text l.fn.groups l.groups l.kept.items
