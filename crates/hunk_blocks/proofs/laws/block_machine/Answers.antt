use Rattle.hunk_blocks.proofs.AlongText.{block_along}
use Rattle.hunk_blocks.proofs.laws.block_machine.Goals as goal

pub returns : goal.returns
returns c = block_along
