use Rattle.hunk_files.specs.Passing.{no_block, one_block}
use Rattle.hunk_files.proofs.load.passing.after_blocks.Goals as goal

pub passing-init : goal.passing-init
passing-init c = no_block

pub passing-preserved : goal.passing-preserved
passing-preserved c = one_block c.passing.place c.pass_block.new.place c.passing.invariant c.in-Some.ensures.passes
