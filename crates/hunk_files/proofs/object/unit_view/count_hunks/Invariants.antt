use Rattle.std.proofs.Common.{◌≡◌, ◌+◌, ◌-◌, ◌≤◌, length}
use Rattle.hunk_files.specs.ObjectViews.{HunksAt, hunks_at}
use Rattle.hunk_files.proofs.object.unit_view.count_hunks.Given as goal

abbrev pub invariant-counting : goal.invariant-counting
invariant-counting l =
    HunksAt l.fn.bytes l.at × (l.hunks + length (hunks_at l.fn.bytes l.at).value ≡ length (hunks_at l.fn.bytes l.fn.start).value) × (l.hunks ≤ l.at)

abbrev pub decreases-counting : goal.decreases-counting
decreases-counting l = length l.fn.bytes - l.at
