use Rattle.std.proofs.Common.{◌≡◌, ◌+◌, drop, length}
use Rattle.hunk_blocks.specs.NameText.{before_zero}
use Rattle.hunk_c.proofs.name.text_length.Given as goal

abbrev pub invariant-bytes : goal.invariant-bytes
invariant-bytes l = length (before_zero l.name) ≡ l.at + length (before_zero (drop l.at l.name))
