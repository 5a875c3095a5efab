use Rattle.std.proofs.Common.{◌≡◌}
use Rattle.hunk_blocks.specs.Parts.{block_text}
use Rattle.hunk_files.proofs.views.PartsInTurn.{end_of}
use Rattle.hunk_files.proofs.load.hunk_views.LoadHunkViewsIterator.next.Given as goal

abbrev pub invariant-passing : goal.invariant-passing
invariant-passing l = end_of block_text l.passed ≡ end_of block_text l.initial.passed
