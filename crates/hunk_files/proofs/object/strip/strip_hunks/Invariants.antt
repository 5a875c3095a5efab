use Rattle.std.proofs.Common.{◌≡◌}
use Rattle.hunk_files.specs.Strip.{strip_blocks}
use Rattle.hunk_files.proofs.strip.StripSteps.{turned}
use Rattle.hunk_files.proofs.object.strip.strip_hunks.Given as goal

abbrev pub invariant-loop-hunk : goal.invariant-loop-hunk
invariant-loop-hunk l = l.hunk-items ≡ turned strip_blocks l.hunk-index l.fn.hunks.items
