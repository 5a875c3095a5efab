use Rattle.std.proofs.Common.{length, ◌-◌}
use Rattle.hunk_scatter.proofs.HeaderSizes.{HeaderSoFar}
use Rattle.hunk_scatter.proofs.header_state.header_size.Given as goal

abbrev pub invariant-words : goal.invariant-words
invariant-words l = HeaderSoFar l.budget l.bytes l.state l.at

abbrev pub decreases-words : goal.decreases-words
decreases-words l = length l.bytes - l.at
