use Rattle.std.proofs.Common.{◌≡◌, ◌≤◌, ◌-◌, take}
use Rattle.hunk_words.specs.Longs.{longs}
use Rattle.hunk_files.specs.Machines.{load_at}
use Rattle.hunk_c.proofs.LastHunks.{LastHunk}
use Rattle.hunk_c.proofs.front.last_hunk.Given as goal

abbrev pub invariant-longwords : goal.invariant-longwords
invariant-longwords l = (l.at ≤ l.end) × (l.position ≡ load_at (take l.at (longs l.bytes))) × LastHunk (longs l.bytes) l.at l.last

abbrev pub decreases-longwords : goal.decreases-longwords
decreases-longwords l = l.end - l.at
