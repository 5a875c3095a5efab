use Rattle.hunk_blocks.specs.Parts.{block_text}
use Rattle.hunk_files.proofs.views.PartsInTurn.{Taken}
use Rattle.hunk_files.proofs.blocks.keep_blocks.Given as goal

abbrev pub invariant-keeping : goal.invariant-keeping
invariant-keeping l = Taken block_text l.fn.blocks l.blocks l.kept.items
