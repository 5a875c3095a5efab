use Rattle.std.proofs.Common.{◌∙◌, arith}
use Rattle.hunk_blocks.specs.{Parts.group_text, Views.group_of}
use Rattle.hunk_blocks.proofs.ListReading.{item_ends, item_kept}
use Rattle.hunk_blocks.proofs.groups.keep_groups.Goals as goal

pub returns-then-is_err-clause-place : goal.returns-then-is_err-clause-place
returns-then-is_err-clause-place c =
    item_ends group_of group_text c.args.groups c.next.new.self c.keeping.kept.items c.in-Some.group c.out_of_memory.result.place
    (item_kept group_of group_text c.args.groups c.keeping.groups c.next.new.self c.keeping.kept.items c.next.result c.in-Some.group c.keeping.invariant c.in-Some.is c.next.ensures.steps)
    (omega arith) (c.out_of_memory.ensures.place ∙ c.place.ensures)
