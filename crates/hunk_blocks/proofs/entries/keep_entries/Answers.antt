use Rattle.std.proofs.Common.{◌∙◌, arith}
use Rattle.hunk_blocks.specs.{Parts.ext_text, Views.entry_of}
use Rattle.hunk_blocks.proofs.ListReading.{item_ends, item_kept}
use Rattle.hunk_blocks.proofs.entries.keep_entries.Goals as goal

pub returns-then-is_err-clause-place : goal.returns-then-is_err-clause-place
returns-then-is_err-clause-place c =
    item_ends entry_of ext_text c.args.entries c.next.new.self c.keeping.kept.items c.in-Some.entry c.out_of_memory.result.place
    (item_kept entry_of ext_text c.args.entries c.keeping.entries c.next.new.self c.keeping.kept.items c.next.result c.in-Some.entry c.keeping.invariant c.in-Some.is c.next.ensures.steps)
    (omega arith) (c.out_of_memory.ensures.place ∙ c.place.ensures)
