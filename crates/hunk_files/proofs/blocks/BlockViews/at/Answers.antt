use Rattle.hunk_files.proofs.views.BlocksInPlace.{hunk_value}
use Rattle.hunk_files.proofs.blocks.BlockViews.at.Goals as goal

pub returns : goal.returns
returns c hunk = λ i. record { place = c.args.start; value = hunk_value hunk i }
