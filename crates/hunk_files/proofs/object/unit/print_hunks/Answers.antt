use Rattle.std.proofs.Common.{arith}
use Rattle.std.specs.List.{flat_map}
use Rattle.hunk_blocks.specs.Parts.{block_text}
use Rattle.hunk_blocks.proofs.ListWriting.{texts_shown}
use Rattle.hunk_files.proofs.object.unit.print_hunks.Goals as goal

pub returns : goal.returns
returns g c = (c.writing.invariant.0, texts_shown (flat_map block_text) c.args.hunks.now c.writing.hunk-index _ _ (omega (arith, c.writing-test.false)) c.writing.invariant.1)
