use Rattle.std.proofs.Common.{arith}
use Rattle.hunk_blocks.proofs.ListWriting.{texts_shown}
use Rattle.hunk_files.specs.{declared.load.hunk.LoadHunk.LoadHunk, Hunks.block_texts}
use Rattle.hunk_files.proofs.load.file.print_hunks.Goals as goal

pub returns : goal.returns
returns g c = (c.putting.invariant.0, texts_shown (λ (h : LoadHunk). block_texts h.blocks.items) c.args.hunks.now c.putting.hunk-index _ _ (omega (arith, c.putting-test.false)) c.putting.invariant.1)
