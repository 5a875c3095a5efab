use Rattle.std.proofs.Common.{length, ◌-◌}
use Rattle.hunk_files.specs.{Hunks.block_texts, ObjectViews.{HunksAt, hunks_at}}
use Rattle.hunk_files.proofs.views.PartsInTurn.{Taken}
use Rattle.hunk_files.proofs.object.keeping.keep_hunks.Given as goal

abbrev pub invariant-keeping : goal.invariant-keeping
invariant-keeping l = HunksAt l.fn.bytes l.at × Taken block_texts (hunks_at l.fn.bytes l.fn.start) (hunks_at l.fn.bytes l.at) l.hunks.items

abbrev pub decreases-keeping : goal.decreases-keeping
decreases-keeping l = length l.fn.bytes - l.at
