use Rattle.std.proofs.Common.{◌∙◌}
use Rattle.hunk_blocks.specs.Views.{body_of}
use Rattle.hunk_blocks.proofs.TextBytes.{block_printed}
use Rattle.hunk_blocks.proofs.block.Block.print.Goals as goal

pub returns : goal.returns
returns g c = (
  c.print_body.ensures.0 ∙ c.print_long.ensures.prints.0,
  block_printed c.self.inside.word c.word.result (body_of c.self.inside.body) c.args.self.now _ _ _ c.self.view_is c.word.ensures c.print_long.ensures.prints.1 c.print_body.ensures.1,
)
