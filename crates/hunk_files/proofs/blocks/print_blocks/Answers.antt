use Rattle.std.proofs.Common.{arith}
use Rattle.hunk_blocks.specs.Parts.{block_text}
use Rattle.hunk_blocks.proofs.ListWriting.{texts_shown}
use Rattle.hunk_files.proofs.blocks.print_blocks.Goals as goal

pub returns : goal.returns
returns g c = (c.putting.invariant.0, texts_shown block_text c.args.blocks.now c.putting.block-index _ _ (omega (arith, c.putting-test.false)) c.putting.invariant.1)
