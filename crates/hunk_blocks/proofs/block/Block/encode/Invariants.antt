use Rattle.hunk_blocks.proofs.block.Block.encode.Given as goal

abbrev pub ghost-new : goal.ghost-new
ghost-new g a = a.out.now
