use Rattle.std.proofs.Common.{◌≡◌}
use Rattle.hunk_files.specs.Items.{end_of_blocks}
use Rattle.hunk_files.proofs.blocks.BlockViews.end.Given as goal

abbrev pub invariant-passing : goal.invariant-passing
invariant-passing l = end_of_blocks l.self ≡ end_of_blocks l.fn.self
