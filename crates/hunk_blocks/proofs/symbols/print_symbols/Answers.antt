use Rattle.std.proofs.Common.{◌∙◌, arith}
use Rattle.hunk_blocks.specs.{Parts.symbol_text, Views.symbol_of}
use Rattle.hunk_blocks.proofs.ListWriting.{list_shown}
use Rattle.hunk_blocks.proofs.symbols.print_symbols.Goals as goal

pub returns : goal.returns
returns g c = (
  c.print_long.ensures.prints.0 ∙ c.symbols.invariant.0,
  list_shown symbol_of symbol_text c.args.symbols.now c.symbols.symbol-index _ _ _ (omega (arith, c.symbols-test.false)) c.symbols.invariant.1 c.print_long.ensures.prints.1,
)
