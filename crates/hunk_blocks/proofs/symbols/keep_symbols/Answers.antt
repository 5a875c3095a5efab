use Rattle.std.proofs.Common.{◌∙◌, arith}
use Rattle.hunk_blocks.specs.{Parts.symbol_text, Views.symbol_of}
use Rattle.hunk_blocks.proofs.ListReading.{item_ends, item_kept}
use Rattle.hunk_blocks.proofs.symbols.keep_symbols.Goals as goal

pub returns-then-is_err-clause-place : goal.returns-then-is_err-clause-place
returns-then-is_err-clause-place c =
    item_ends symbol_of symbol_text c.args.symbols c.next.new.self c.keeping.kept.items c.in-Some.symbol c.out_of_memory.result.place
    (item_kept symbol_of symbol_text c.args.symbols c.keeping.symbols c.next.new.self c.keeping.kept.items c.next.result c.in-Some.symbol c.keeping.invariant c.in-Some.is c.next.ensures.steps)
    (omega arith) (c.out_of_memory.ensures.place ∙ c.place.ensures)
